-- What the code promises of an answer.
use Rattle.std.specs.Prelude.{ℕ, ◌≤◌, ◌≡◌, List, Result, IfOk}
use Rattle.octets.specs.Run.{Wrote}
use Rattle.reading.specs.declared.Dialect.{Dialect}
use Rattle.reading.specs.declared.Verdict.{Verdict}
use Rattle.sh.specs.Answer.{sh_answer}
use Rattle.sh.specs.Tell.{tell, telling_of}
use Rattle.sh.specs.declared.Reply.{Reply}
use Rattle.sh.specs.declared.telling.Told.{Told}

-- a record that is told of is none, 0, or one of so many
abbrev pub AmongRecords : ℕ → Result Told Verdict → Type 0
AmongRecords count g = IfOk g (λ (a : Told). a.block ≤ count)

-- what is told is so, of one of the records or of none, and its place lies in the request
pub record Tells (d : Dialect) (req t : List ℕ) (count : ℕ) (g : Result Told Verdict) : Type 0 where
  pub telling_is : telling_of g ≡ tell d req t count
  pub within : AmongRecords count g
  pub near : (telling_of g).verdict.place ≤ 16384

-- the answer was written, with its length and its place
pub record Replies (d : Dialect) (req t : List ℕ) (count : ℕ) (before after : List ℕ) (r : Reply) : Type 0 where
  pub answers : Wrote (sh_answer d.terms req t (tell d req t count)) before after r.length
  pub place_is : r.place ≡ (tell d req t count).verdict.place
