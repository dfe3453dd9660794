-- What can be said of one call: its refusals, each exactly under its condition, and its answer.
use Rattle.std.specs.Prelude.{ℕ, ◌≤◌, ◌≡◌, List, ◌∷◌, ◌++◌, Bool, false, not, ◌&&◌, length, eqb, Ok}
use Rattle.vectors.specs.VectorFile.{SoundVectors}
use Rattle.reading.specs.Rules.{Seen}
use Rattle.reading.specs.declared.Dialect.{Dialect}
use Rattle.requests.specs.Features.{beyond_set}
use Rattle.requests.specs.Judged.{fine}
use Rattle.requests.specs.Request.{read_in}
use Rattle.calling.specs.Lent.{Lent}
use Rattle.refusals.specs.Trial.{Trial, any_holds}
use Rattle.refusals.specs.Early.{wrong_size, wrong_length}
use Rattle.calling.specs.Serve.{check_of, trials, answer_of, decision}

-- one of the refusals holds
abbrev pub turned_away : Lent → Bool
turned_away x = any_holds (trials x)

-- the answer over a sound table of so many records; if the vector file is sound too, it fits into the smallest buffer that is taken
abbrev pub answer_to : Lent → ℕ → List ℕ
answer_to x count = answer_of x (decision x count)

abbrev pub Fits : Lent → Type 0
Fits x =
    wrong_size x.request ≡ false → wrong_length x.request ≡ false → (count : ℕ) → check_of x ≡ Ok count → SoundVectors x.vectors
    → length (answer_to x count) ≤ 36864

-- a request in which reading finds no fault and which asks for no feature outside the set: it is decided upon
pub record Decides (d : Dialect) (req : List ℕ) (seen : Seen) : Type 0 where
  pub read : read_in d req ≡ fine seen
  pub inside : beyond_set d.terms req ≡ false

-- "Given exactly when", "tried in this order": the number is a trial's exactly when that one holds and none earlier does, and 0 exactly when none holds
pub record Exactly (rs : List Trial) (n : ℕ) : Type 0 where
  pub given : (earlier later : List Trial) (r : Trial) → rs ≡ earlier ++ (r ∷ later) → eqb n r.number ≡ (not (any_holds earlier) && r.holds)
  pub none : eqb n 0 ≡ not (any_holds rs)
