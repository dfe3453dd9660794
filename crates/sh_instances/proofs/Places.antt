-- The place, of the Sh server: the hypotheses of its theorems can be met, by requests that are computed.
use Rattle.std.specs.Prelude.{Ok}
use Rattle.octets.specs.Standard.{ℕ, ◌≤◌, ◌<◌, ◌≡◌, refl, sym, ap, true, false, List, [], ◌∷◌, ◌++◌, map, arith, length, take, set}
use Rattle.pen.specs.Bytes.{avp_bytes, vendor_bytes, vendor_head, number_bytes}
use Rattle.pen.specs.Groups.{failed}
use Rattle.reading.specs.declared.Outcome.TheVariants.{Base}
use Rattle.requests.specs.Judged.{nothing}
use Rattle.requests.specs.Request.{sh, dialect_of, under_sh, header_fault_sh}
use Rattle.refusals.specs.Trial.{any_holds}
use Rattle.ndushavire.specs.Reads.{call_place, place_in}
use Rattle.ndushavire.specs.Word.{word, call_word}
use Rattle.ndushavire_sh.specs.Promise.{ShDecidePromise}
use Rattle.ndushavire_sh.specs.Serve.{Served, sh_serve}
use Rattle.demands.specs.Frame.{succeeds}
use Rattle.demands.specs.Place.{first, past_taken, rule_fault, OfRules, AtFaultBy}
use Rattle.sh_example.proofs.Computed.{known, held, roomy, area, area_sound, asking, served, leaves}
use Rattle.sh_example.proofs.Sample.{table, request, common, udr, identity, outside, state, name, ask, reply, opened}
use Rattle.sh_demands.specs.Call.{turned_away}
use Rattle.sh_demands.specs.Place.{Blames, result_of}
use Rattle.sh_demands.proofs.Place.{sh_place_word, sh_place_answer, sh_place_is, sh_place_blames, sh_place_least, sh_place_within, sh_place_bytes}
use Rattle.sh_demands.proofs.Place.{sh_place_result, sh_place_none, sh_place_refused, sh_place_header, sh_place_first, sh_place_told, sh_place_missing}
use Rattle.sh_demands.proofs.Place.{sh_place_experimental, sh_place_success, sh_place_most}
use Rattle.sh_instances.proofs.Says.{unknown, seen_of, read_unknown, result_so}

-- A 703 of five bytes, (g). Reading takes seven AVPs, the first at 20, and comes to it at 140.
unfoldable wide : List ℕ
wide = ask 0x61 (vendor_bytes 703 (0 ∷ 0 ∷ 0 ∷ 0 ∷ 11 ∷ []))

wrong_size : AtFaultBy (header_fault_sh (dialect_of (under_sh 3588) wide) wide) (dialect_of (under_sh 3588) wide) wide 5014 140
unfolding opened wide
wrong_size =
    record {
      header = refl;
      session = refl;
      seen = _;
      reached =
          past_taken 112 _ (past_taken 100 _ (past_taken 88 _ (past_taken 76 _ (past_taken 64 _ (past_taken 32 _ (past_taken 20 nothing first
          refl refl) refl refl) refl refl) refl refl) refl refl) refl refl) refl refl;
      breaks = rule_fault 5014 refl refl;
    }

blames : Blames (asking wide) 140
unfolding opened wide any_holds
blames = record { taken = held (asking wide) roomy area_sound refl; result = 5014; fault = wrong_size }

met_answer : sh_serve (asking wide) ≡ leaves 132 140 (reply (number_bytes 268 5014) (failed (vendor_head 703 12)))
unfolding opened wide area blames
met_answer = sh_place_answer (asking wide) 140 blames

met_is : call_place (sh_serve (asking wide)).call ≡ 140
met_is = sh_place_is (asking wide) 140 blames

met_blames : Blames (asking wide) 140
met_blames = rw met_is at (sh_place_blames (asking wide) (λ e. omega (arith, e, met_is)))

met_least : 20 ≤ 140
met_least = sh_place_least (asking wide) 140 blames

met_within : 140 < length wide
met_within = sh_place_within (asking wide) 140 blames

met_bytes : 144 ≤ length wide
met_bytes = sh_place_bytes (asking wide) 140 blames

met_result : (result_of (asking wide) ≡ Base 5014) × OfRules 5014
unfolding blames
met_result = sh_place_result (asking wide) 140 blames

-- the answer has 132 bytes: so the word says 140 and 132
promise : ShDecidePromise (asking wide) (word 0 140 132) (sh_serve (asking wide)).buffer
promise = record { word_is = ap (λ (y : Served). call_word y.call) (sym met_answer); buffer_is = refl }

met_word : place_in (word 0 140 132) ≡ call_place (sh_serve (asking wide)).call
met_word = sh_place_word (asking wide) {r = word 0 140 132} promise

met_most : call_place (sh_serve (asking wide)).call ≤ 16380
met_most = sh_place_most (asking wide)

-- A request of 19 bytes; of version 2, of another command; without Session-Id in front. Each has the wide 703 all the same.
cut_off_lem : turned_away (asking (take 19 wide)) ≡ true
unfolding opened wide any_holds
cut_off_lem = held (asking (take 19 wide)) roomy area_sound refl

met_refused : call_place (sh_serve (asking (take 19 wide))).call ≡ 0
met_refused = sh_place_refused (asking (take 19 wide)) cut_off_lem

met_header : call_place (sh_serve (asking (set wide 0 2))).call ≡ 0
unfolding opened wide
met_header = sh_place_header (asking (set wide 0 2)) (λ e. let d : ◌≡◌ {A = ℕ} 5011 0 = e in omega arith)

met_command : call_place (sh_serve (asking (set wide 7 0x2C))).call ≡ 0
unfolding opened wide
met_command = sh_place_header (asking (set wide 7 0x2C)) (λ e. let d : ◌≡◌ {A = ℕ} 3001 0 = e in omega arith)

unfoldable behind_name : List ℕ
behind_name = request 306 1 (avp_bytes 1 (0x70 ∷ []) ++ (common sh ++ (identity 0x61 ++ vendor_bytes 703 (0 ∷ 0 ∷ 0 ∷ 0 ∷ 11 ∷ []))))

met_first : call_place (sh_serve (asking behind_name)).call ≡ 0
unfolding opened behind_name
met_first = sh_place_first (asking behind_name) refl

-- told: `e` is in no record. No 700, B5005; X5001; a success
met_told : call_place (sh_serve (asking unknown)).call ≡ 0
met_told = sh_place_told (asking unknown) (seen_of unknown) read_unknown

met_missing : call_place (sh_serve (asking (udr state))).call ≡ 0
unfolding opened
met_missing = sh_place_missing (asking (udr state)) (result_so (udr state) refl)

met_experimental : call_place (sh_serve (asking unknown)).call ≡ 0
unfolding opened unknown
met_experimental = sh_place_experimental (asking unknown) 5001 (result_so unknown refl)

met_success : call_place (sh_serve (asking (ask 0x61 state))).call ≡ 0
unfolding opened
met_success = sh_place_success (asking (ask 0x61 state)) (ap succeeds (result_so (ask 0x61 state) {r = Base 2001} refl))

-- what has the place 0 blames none
met_none : call_place (sh_serve (asking unknown)).call ≡ 0
met_none =
    sh_place_none (asking unknown) (λ p b. omega (arith, met_told, sh_place_is (asking unknown) p b, sh_place_least (asking unknown) p b))

-- Letter by letter: the place for each fault of reading. The AVPs stand at 20, 32, 64, 76, 88, 100, 112 and 140, and a request for the state ends at 156.
abbrev letters : List (List ℕ)
letters =
    -- (a) a length of 4; too few bytes left for the header; the first AVP's length past the end
    ask 0x61 (state ++ (0 ∷ 0 ∷ 0 ∷ 1 ∷ 0 ∷ 0 ∷ 0 ∷ 4 ∷ []))
    ∷ ask 0x61 (state ++ (0 ∷ 0 ∷ 0 ∷ 1 ∷ []))
    ∷ set (ask 0x61 state) 25 1
    -- (b) has none; (c) a reserved flag of the 264; (d) an unknown kind with M, 601, between and at the end
    ∷ behind_name
    ∷ set (ask 0x61 state) 80 65
    ∷ udr (outside 192 0x61 ++ (identity 0x61 ++ state))
    ∷ ask 0x61 (state ++ outside 192 0x61)
    -- (f) a second 700; (g) a 703 of five bytes; (h) a 700 of two 601s
    ∷ udr (identity 0x61 ++ (identity 0x61 ++ state))
    ∷ wide
    ∷ udr (vendor_bytes 700 (vendor_bytes 601 (0x61 ∷ []) ++ vendor_bytes 601 (0x61 ∷ [])) ++ state)
    -- two faults: the first decides; a second 703 is none
    ∷ udr (outside 192 0x61 ++ (identity 0x61 ++ identity 0x61))
    ∷ ask 0x61 (state ++ name)
    ∷ []

abbrev place_of : List ℕ → ℕ
place_of req = call_place (sh_serve (asking req)).call

-- the same by what the checks answer
abbrev place_known : List ℕ → ℕ
place_known req = call_place (known false (Ok 4) table (asking req)).call

all_known : (l : List (List ℕ)) → map place_of l ≡ map place_known l
all_known [] = refl
all_known (req ∷ l) =
    let e : place_of req ≡ place_known req = ap (λ (y : Served). call_place y.call) (served req {y = known false (Ok 4) table (asking req)} refl) in
    rw (e, all_known l)

places : map place_of letters ≡ 156 ∷ 156 ∷ 20 ∷ 0 ∷ 76 ∷ 112 ∷ 156 ∷ 140 ∷ 140 ∷ 112 ∷ 112 ∷ 0 ∷ []
unfolding opened wide behind_name
places = all_known letters
