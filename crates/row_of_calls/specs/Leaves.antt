-- What the code of a row goes by, and what each step of it leaves.
use Rattle.std.specs.Prelude.{ℕ, ◌+◌, ◌*◌, ◌≤◌, ◌≡◌, Bool, false, ◌&&◌, List, ◌++◌, length, take, drop, eqb, ltb, Result, Ok, Err}
use Rattle.refusals.specs.declared.Refusal.{Refusal}
use Rattle.deciding.specs.declared.Told.{Told}
use Rattle.octets.specs.Run.{over, Wrote}
use Rattle.reading.specs.declared.Outcome.{Outcome}
use Rattle.reading.specs.declared.Outcome.TheVariants.{Base, Experimental}
use Rattle.counting.specs.Words.{long_bytes}
use Rattle.calling.specs.Lent.{Lent, lent}
use Rattle.calling.specs.Serve.{serve}
use Rattle.row_of_calls.specs.Word.{call_word}
use Rattle.row_of_calls.specs.Row.{Rowed, answer_length, alters, marks}
use Rattle.row_of_calls.specs.declared.Done.{Done}
use Rattle.row_of_calls.specs.declared.Ended.{Ended}

-- whether a call of this command and result marks vectors: a MAR that succeeds
abbrev pub marks_from : ℕ → Outcome → Bool
marks_from command (Base n) = eqb command 303 && eqb n 2001
marks_from command (Experimental n) = false

-- what a call does in a row, from what the code says of it
abbrev pub done_from : Result Told Refusal → Done
done_from (Ok told) = record { used = told.length; altered = ltb 0 told.altered; marked = marks_from told.command told.result }
done_from (Err r) = record { used = 0; altered = false; marked = false }

-- how a row ends
abbrev pub ended_so : ℕ → ℕ → Bool → Bool → Ended
ended_so number served altered marked = record { number = number; served = served; altered = altered; marked = marked }

-- one request, over what is left of `answers` and of `words`: the call made, its word written
pub record Serves (x : Lent) (words : List ℕ) (d : Done) (table' vectors' answers' words' : List ℕ) : Type 0 where
  pub used_is : d.used ≡ answer_length (serve x).call
  pub within : d.used ≤ length answers'
  pub altered_is : d.altered ≡ alters x
  pub marked_is : d.marked ≡ marks x
  pub table_is : table' ≡ (serve x).table
  pub vectors_is : vectors' ≡ (serve x).vectors
  pub answers_is : answers' ≡ (serve x).buffer
  pub wrote : Wrote (long_bytes (call_word (serve x).call)) words words' 8

-- the same over the whole areas, behind so many bytes of answers and so many words
abbrev pub from : Lent → ℕ → Lent
from x used = lent x.request x.table x.profile x.vectors (drop used x.buffer) x.terms

pub record ServesAt (x : Lent) (words : List ℕ) (used served : ℕ) (d : Done) (table' vectors' answers' words' : List ℕ) : Type 0 where
  pub used_is : d.used ≡ used + answer_length (serve (from x used)).call
  pub within : d.used ≤ length answers'
  pub room : 8 * (served + 1) ≤ length words
  pub altered_is : d.altered ≡ alters (from x used)
  pub marked_is : d.marked ≡ marks (from x used)
  pub table_is : table' ≡ (serve (from x used)).table
  pub vectors_is : vectors' ≡ (serve (from x used)).vectors
  pub answers_is : answers' ≡ take used x.buffer ++ (serve (from x used)).buffer
  pub words_is : words' ≡ take (8 * served) words ++ over (long_bytes (call_word (serve (from x used)).call)) (drop (8 * served) words)

-- the row, over a table or over an area
pub record Rows (o : Rowed) (r : Ended) (table' vectors' answers' words' : List ℕ) : Type 0 where
  pub number_is : r.number ≡ o.number
  pub served_is : r.served ≡ o.served
  pub altered_is : r.altered ≡ o.altered
  pub marked_is : r.marked ≡ o.marked
  pub table_is : table' ≡ o.table
  pub vectors_is : vectors' ≡ o.vectors
  pub answers_is : answers' ≡ o.answers
  pub words_is : words' ≡ o.words
