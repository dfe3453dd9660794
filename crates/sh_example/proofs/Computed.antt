-- How a call of the Sh server is computed: the buffer stays a variable, and what the area's check answers, and its table, are computed once for all calls.
use Rattle.std.specs.Prelude.{Result, Ok}
use Rattle.octets.specs.Standard.{ℕ, ◌≡◌, refl, ap, List, [], ◌∷◌, ◌++◌, Bool, false, length, drop, replicate, length-replicate, ltb}
use Rattle.octets.specs.Run.{over}
use Rattle.table.specs.Area.{table_in, check_area}
use Rattle.refusals.specs.Early.{unknown_peer, small_buffer, early_trials, check_value, unsound}
use Rattle.refusals.specs.Trial.{Trial, tried, any_holds}
use Rattle.sh.specs.Answer.{sh_answer}
use Rattle.sh.specs.Tell.{tell}
use Rattle.calling.specs.Call.{Answered}
use Rattle.ndushavire_sh.specs.Lent.{Lent, lent, terms_in, dialect_in}
use Rattle.ndushavire_sh.specs.Serve.{Served, trials_of, refused, answered, serve_checked, sh_serve}
use Rattle.sh_example.proofs.Sample.{table, opened}

abbrev pub known_trials : Bool → Result ℕ ℕ → Lent → List Trial
known_trials small c x =
    record { holds = unknown_peer (terms_in x); number = 12; besides = 0 }
    ∷ record { holds = small; number = 1; besides = 0 }
    ∷ drop 2 (early_trials (terms_in x) x.request x.buffer)
    ++ (unsound c ∷ [])

abbrev pub known_answer : List ℕ → ℕ → Lent → List ℕ
known_answer t count x = sh_answer (terms_in x) x.request t (tell (dialect_in x) x.request t count)

abbrev pub known_served : List ℕ → ℕ → Lent → Served
known_served t count x =
    record {
      call = Answered (record { length = length (known_answer t count x); place = (tell (dialect_in x) x.request t count).verdict.place });
      buffer = over (known_answer t count x) x.buffer;
    }

abbrev pub known : Bool → Result ℕ ℕ → List ℕ → Lent → Served
known small c t x = tried (refused x) (known_served t (check_value c) x) (known_trials small c x)

pub come : (x : Lent) {small : Bool} {c : Result ℕ ℕ} {t : List ℕ} {y : Served} → small_buffer x.buffer ≡ small → check_area x.table (length x.profile) ≡ c
    → table_in x.table ≡ t → known small c t x ≡ y → sh_serve x ≡ y
unfolding serve_checked answered
come x o e f g = rw (o, e, f) g

-- whether it is refused, likewise
pub held : (x : Lent) {small b : Bool} {c : Result ℕ ℕ} → small_buffer x.buffer ≡ small → check_area x.table (length x.profile) ≡ c
    → any_holds (known_trials small c x) ≡ b → any_holds (trials_of x (check_area x.table (length x.profile))) ≡ b
held x o e g = rw (o, e) g

-- a buffer of the least room; an area that is longer than its table
unfoldable pub room : List ℕ
room = replicate 36864 0

pub roomy : small_buffer room ≡ false
unfolding room
roomy = ap (λ (k : ℕ). ltb k 36864) (length-replicate {A = ℕ} 36864 0)

unfoldable pub area : List ℕ
area = table ++ (0xFF ∷ [])

pub area_sound : check_area area 0 ≡ Ok 4
unfolding opened area
area_sound = refl

pub area_table : table_in area ≡ table
unfolding opened area
area_table = refl

-- a request of a peer that follows RFC 3588, over the area
abbrev pub asking : List ℕ → Lent
asking req = lent req area [] room 3588

pub served : (req : List ℕ) {y : Served} → known false (Ok 4) table (asking req) ≡ y → sh_serve (asking req) ≡ y
served req e = come (asking req) roomy area_sound area_table e

-- an answer of so many bytes, with a place
abbrev pub leaves : ℕ → ℕ → List ℕ → Served
leaves size place bytes = record { call = Answered (record { length = size; place = place }); buffer = over bytes room }
