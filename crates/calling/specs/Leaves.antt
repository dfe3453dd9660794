-- What a call that is not yet a word leaves; its first five trials, which look at no table, and its last two, over files that were checked.
use Rattle.std.specs.Prelude.{ℕ, ◌≡◌, List, Result, Ok, Err}
use Rattle.rewrite.specs.Change.{altered_up_to}
use Rattle.diameter.specs.Message.{command_of}
use Rattle.calling.specs.Lent.{Lent}
use Rattle.refusals.specs.Trial.{tried}
use Rattle.refusals.specs.Early.{check_value}
use Rattle.calling.specs.Serve.{Served, file_trials, refused, answered, decision}
use Rattle.deciding.specs.declared.Told.{Told}
use Rattle.refusals.specs.declared.Refusal.{Refusal}
use Rattle.refusals.specs.Numbers.{number_of, value_of}
use Rattle.calling.specs.Call.{Call, Answered, Refused}

-- what the code says of it, which knows more of an answer
abbrev pub call_of : Result Told Refusal → Call
call_of (Ok told) = Answered (record { length = told.length; place = told.place })
call_of (Err r) = Refused (number_of r) (value_of r)

-- of an answer over a table of count records: the request's command, the result, and how many records have other bytes in the table afterwards
abbrev pub Noted : Lent → ℕ → List ℕ → Result Told Refusal → Type 0
Noted x count table' (Ok told) =
    (told.command ≡ command_of x.request) × (told.result ≡ (decision x count).given.verdict.result) × (told.altered ≡ altered_up_to x.table table' count)
Noted x count table' (Err r) = Unit

pub record Leaves (x : Lent) (s : Served) (count : ℕ) (r : Result Told Refusal) (table' vectors' buffer' : List ℕ) : Type 0 where
  pub call_is : call_of r ≡ s.call
  pub table_is : table' ≡ s.table
  pub vectors_is : vectors' ≡ s.vectors
  pub buffer_is : buffer' ≡ s.buffer
  pub noted : Noted x count table' r

-- of a call over an area; nobody asks it for the records altered
pub record Comes (s : Served) (r : Result Told Refusal) (table' vectors' buffer' : List ℕ) : Type 0 where
  pub call_is : call_of r ≡ s.call
  pub table_is : table' ≡ s.table
  pub vectors_is : vectors' ≡ s.vectors
  pub buffer_is : buffer' ≡ s.buffer

unfoldable pub serve_checked : Lent → Result ℕ ℕ → Result ℕ ℕ → Served
serve_checked x c d = tried (refused x) (answered x (decision x (check_value c))) (file_trials c d)
