-- The promise, demands 1 and 2 of the Sh server: their hypotheses can be met, by calls that are computed, answered and refused.
use Rattle.std.specs.Prelude.{Err}
use Rattle.octets.specs.Standard.{ℕ, ◌≤◌, ◌≡◌, refl, sym, ap, ◌∙◌, List, [], ◌∷◌, ◌++◌, true, false, ◌⊎◌, arith, length, drop, eqb}
use Rattle.octets.specs.Run.{over}
use Rattle.table.specs.Area.{check_area}
use Rattle.pen.specs.Groups.{experimental}
use Rattle.refusals.specs.Early.{early_trials, early}
use Rattle.refusals.specs.Trial.{any_holds}
use Rattle.calling.specs.Call.{Answer, Answered, Refused}
use Rattle.ndushavire.specs.Word.{call_word}
use Rattle.ndushavire.specs.Reads.{call_number, Reads}
use Rattle.ndushavire_sh.specs.Lent.{Lent, terms_in}
use Rattle.ndushavire_sh.specs.Promise.{ShDecidePromise}
use Rattle.ndushavire_sh.specs.Serve.{Served, told_of, answer_of, trials_of, sh_serve}
use Rattle.sh_example.proofs.Computed.{held, room, roomy, area, area_sound, asking, leaves}
use Rattle.sh_example.proofs.Sample.{other, ask, reply, opened}
use Rattle.sh_example.proofs.Servers.{neither_served, nothing, peer_served, broken, broken_bad, broken_served}
use Rattle.sh_demands.specs.Call.{turned_away}
use Rattle.sh_demands.proofs.Demands.{sh_unique, sh_promised, sh_demand_1, sh_demand_1_number, sh_demand_1_none, sh_demand_1_block, sh_demand_1_length}
use Rattle.sh_demands.proofs.Demands.{sh_demand_1_word, sh_demand_1_kept, sh_demand_1_past, sh_demand_1_within, sh_demand_1_room, sh_demand_1_fits}
use Rattle.sh_demands.proofs.Demands.{sh_demand_2}

-- AN ANSWER: `e` is in no record, so X5001 in 132 bytes.
abbrev unknown : Lent
unknown = asking (ask 0x65 other)

abbrev told : Answer
told = record { length = 132; place = 0 }

abbrev bytes : List ℕ
bytes = over (reply (experimental 5001) []) room

unknown_call : (sh_serve unknown).call ≡ Answered told
unknown_call = ap (λ (y : Served). y.call) neither_served

-- the word that is promised says 132, and so does what it is read back to
promise : ShDecidePromise unknown 132 bytes
promise = record { word_is = sym (ap call_word unknown_call); buffer_is = sym (ap (λ (y : Served). y.buffer) neither_served) }

met_unique : (r : ℕ) (o : List ℕ) → ShDecidePromise unknown r o → (r ≡ 132) × (o ≡ bytes)
met_unique r o p = sh_unique unknown p promise

met_promised : sh_serve unknown ≡ leaves 132 0 (reply (experimental 5001) [])
met_promised = sh_promised unknown {r = 132} promise

met_1_word : Reads (Answered told) 132
met_1_word = rw unknown_call at (sh_demand_1_word unknown)

met_1_length : 132 ≡ length (answer_of unknown 4)
met_1_length = sh_demand_1_length unknown told unknown_call 4 area_sound

met_1_past : drop 132 (sh_serve unknown).buffer ≡ drop 132 room
met_1_past = rw unknown_call at (sh_demand_1_past unknown)

met_1_within : 132 ≤ length room
met_1_within = rw unknown_call at (sh_demand_1_within unknown (ap call_number unknown_call))

met_1_room : length (sh_serve unknown).buffer ≡ length room
met_1_room = sh_demand_1_room unknown

none_early : early (terms_in unknown) (ask 0x65 other) room ≡ 0
unfolding opened early
none_early = rw roomy

met_1_fits : length (answer_of unknown 4) ≤ 36864
met_1_fits = sh_demand_1_fits unknown none_early 4 area_sound

pub taken : turned_away unknown ≡ false
unfolding opened any_holds
taken = held unknown roomy area_sound refl

met_2 : ((sh_serve unknown).call ≡ Answered (record { length = length (answer_of unknown 4); place = (told_of unknown 4).verdict.place }))
    × ((sh_serve unknown).buffer ≡ over (answer_of unknown 4) room)
met_2 = sh_demand_2 unknown 4 area_sound taken

-- A REFUSAL by 5, of a table whose block 2 is bad; and one by 12, which goes before all.
broken_call : (sh_serve broken).call ≡ Refused 5 2
broken_call = ap (λ (y : Served). y.call) broken_served

met_1_block : check_area broken.table (length broken.profile) ≡ Err 2
met_1_block = sh_demand_1_block broken 2 broken_call

met_1_none : ◌≡◌ {A = ℕ} 0 0
met_1_none = sh_demand_1_none (nothing 0) 12 0 (ap (λ (y : Served). y.call) peer_served) (λ e. omega (arith, e))

turned_away_lem : turned_away broken ≡ true
unfolding opened any_holds broken
turned_away_lem = held broken roomy broken_bad refl

met_1_kept : (sh_serve broken).buffer ≡ broken.buffer
met_1_kept = sh_demand_1_kept broken turned_away_lem

met_1_number : ((call_number (sh_serve broken).call ≤ 5) ⊎ (call_number (sh_serve broken).call ≡ 12))
    × ((call_number (sh_serve (nothing 0)).call ≤ 5) ⊎ (call_number (sh_serve (nothing 0)).call ≡ 12))
met_1_number = (sh_demand_1_number broken, sh_demand_1_number (nothing 0))

-- EXACTLY WHEN: of 5, the last trial, none before it holds, and it holds of the one table and not of the other; the number is 0 just where none holds.
broken_trials : trials_of broken (check_area broken.table (length broken.profile))
    ≡ early_trials (terms_in broken) broken.request broken.buffer ++ (record { holds = true; number = 5; besides = 2 } ∷ [])
unfolding broken
broken_trials = rw broken_bad

met_1_given : eqb (call_number (sh_serve broken).call) 5 ≡ true
unfolding opened any_holds broken
met_1_given =
    (sh_demand_1 broken).given (early_trials (terms_in broken) broken.request broken.buffer) [] (record { holds = true; number = 5; besides = 2 })
    broken_trials
    ∙ rw roomy

unknown_trials : trials_of unknown (check_area area 0)
    ≡ early_trials (terms_in unknown) (ask 0x65 other) room ++ (record { holds = false; number = 5; besides = 4 } ∷ [])
unknown_trials = rw area_sound

met_1_not_given : eqb (call_number (sh_serve unknown).call) 5 ≡ false
unfolding opened any_holds
met_1_not_given =
    (sh_demand_1 unknown).given (early_trials (terms_in unknown) (ask 0x65 other) room) [] (record { holds = false; number = 5; besides = 4 }) unknown_trials
    ∙ rw roomy

met_1_answered : eqb (call_number (sh_serve unknown).call) 0 ≡ true
met_1_answered = (sh_demand_1 unknown).none ∙ rw taken

met_1_turned : eqb (call_number (sh_serve broken).call) 0 ≡ false
met_1_turned = (sh_demand_1 broken).none ∙ rw turned_away_lem
