-- What the code of a report goes by.
use Rattle.std.specs.Prelude.{ℕ, List, cond, Result, Ok, Err}
use Rattle.refusals.specs.declared.Refusal.{Refusal}
use Rattle.deciding.specs.declared.Told.{Told}
use Rattle.octets.specs.Number.{be24_at}
use Rattle.refusals.specs.Numbers.{number_of}
use Rattle.reporting.specs.Pieces.{broken}
use Rattle.counting.specs.Event.{Event}

-- the length of the request that stands first, 0 if none does
unfoldable pub first_length : List ℕ → ℕ
first_length s = cond (broken s) 0 (be24_at s 1)

-- a call as it is counted, from what the code says of it
abbrev pub event_from : Result Told Refusal → Event
event_from (Ok told) = Ok (record { command = told.command; result = told.result; length = told.length; altered = told.altered })
event_from (Err r) = Err (number_of r)
