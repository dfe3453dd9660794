-- "the place of the AVP at fault, or 0", for the Sh server: which AVP that is, is told in the first server's words.
use Rattle.std.specs.Prelude.{ℕ, ◌≡◌, false, length}
use Rattle.reading.specs.declared.Outcome.{Outcome}
use Rattle.requests.specs.Request.{header_fault_sh}
use Rattle.refusals.specs.Early.{check_value}
use Rattle.table.specs.Area.{check_area}
use Rattle.ndushavire_sh.specs.Lent.{Lent, dialect_in}
use Rattle.ndushavire_sh.specs.Serve.{told_of}
use Rattle.demands.specs.Place.{AtFaultBy}
use Rattle.sh_demands.specs.Call.{turned_away}

-- a call that is not refused, of a request in which the AVP at a place is at fault
pub record Blames (x : Lent) (place : ℕ) : Type 0 where
  pub taken : turned_away x ≡ false
  pub result : ℕ
  pub fault : AtFaultBy (header_fault_sh (dialect_in x) x.request) (dialect_in x) x.request result place

-- the result of a call that is not refused
abbrev pub result_of : Lent → Outcome
result_of x = (told_of x (check_value (check_area x.table (length x.profile)))).verdict.result
