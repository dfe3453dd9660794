-- How a call is computed. The buffer stays a variable, and what the checks of its files answer is computed once for all calls over them.
use Rattle.std.specs.Prelude.{Result, Ok}
use Rattle.octets.specs.Standard.{ℕ, ◌≡◌, refl, ap, ◌∙◌, List, [], ◌∷◌, ◌++◌, Bool, false, drop, replicate, length-replicate, ltb}
use Rattle.table.specs.Check.{check_table}
use Rattle.vectors.specs.VectorFile.{check_vectors}
use Rattle.calling.specs.Lent.{Lent}
use Rattle.refusals.specs.Trial.{Trial, tried, any_holds}
use Rattle.refusals.specs.Early.{unknown_peer, small_buffer, early_trials, check_value}
use Rattle.calling.specs.Serve.{Served, file_trials, check_of, trials, refused, answered, decision, serve_found}
use Rattle.calling.specs.Serve.{serve_table_by, serve_table}
use Rattle.worked_examples.proofs.Sample.{room, one, s, opened}

-- a call by what its buffer's length and its files' checks say: whether the buffer is too small, and the two answers
abbrev pub known_trials : Bool → Result ℕ ℕ → Result ℕ ℕ → Lent → List Trial
known_trials small c d x =
    record { holds = unknown_peer x.terms; number = 12; besides = 0 }
    ∷ record { holds = small; number = 1; besides = 0 }
    ∷ drop 2 (early_trials x.terms x.request x.buffer)
    ++ file_trials c d

abbrev pub known : Bool → Result ℕ ℕ → Result ℕ ℕ → Lent → Served
known small c d x = tried (refused x) (answered x (decision x (check_value c))) (known_trials small c d x)

pub come : (x : Lent) {small : Bool} {c d : Result ℕ ℕ} {y : Served} → small_buffer x.buffer ≡ small → check_of x ≡ c → check_vectors x.vectors ≡ d
    → known small c d x ≡ y → serve_table x ≡ y
unfolding serve_table_by serve_found
come x o e f g = rw (o, e, f) g

-- whether it is refused, likewise
pub held : (x : Lent) {small b : Bool} {c d : Result ℕ ℕ} → small_buffer x.buffer ≡ small → check_of x ≡ c → check_vectors x.vectors ≡ d
    → any_holds (known_trials small c d x) ≡ b → any_holds (trials x) ≡ b
held x o e f g = rw (o, e, f) g

-- a buffer of n zeros; one of the least room
pub sized : (n : ℕ) {small : Bool} → ltb n 36864 ≡ small → small_buffer (replicate n 0) ≡ small
sized n h = ap (λ (k : ℕ). ltb k 36864) (length-replicate n 0) ∙ h

pub roomy : small_buffer room ≡ false
unfolding room
roomy = sized 36864 refl

-- no vectors; the one record `a`, registered at `s` or not registered
pub no_vectors : check_vectors [] ≡ Ok 0
unfolding opened
no_vectors = refl

pub registered_sound : check_table (one 0 1 s) 0 ≡ Ok 1
unfolding opened
registered_sound = refl

pub unregistered_sound : check_table (one 0 0 []) 0 ≡ Ok 1
unfolding opened
unregistered_sound = refl
