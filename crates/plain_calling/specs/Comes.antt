-- What a call of the plain engine comes to, and what it leaves: what the definition of a call says.
use Rattle.std.specs.Prelude.{ℕ, ◌≡◌, List, Result, Ok, Err}
use Rattle.calling.specs.Call.{Call, Answered, Refused}
use Rattle.calling.specs.Serve.{Served}
use Rattle.plain_deciding.specs.declared.Said.{Said}
use Rattle.refusals.specs.Numbers.{number_of, value_of}
use Rattle.refusals.specs.declared.Refusal.{Refusal}

abbrev pub call_of : Result Said Refusal → Call
call_of (Ok said) = Answered (record { length = said.length; place = said.place })
call_of (Err r) = Refused (number_of r) (value_of r)

pub record Comes (s : Served) (r : Result Said Refusal) (table' vectors' buffer' : List ℕ) : Type 0 where
  pub call_is : call_of r ≡ s.call
  pub table_is : table' ≡ s.table
  pub vectors_is : vectors' ≡ s.vectors
  pub buffer_is : buffer' ≡ s.buffer
