-- What reading blames: a result, with the place of the AVP at fault or the kind that is missing.
use Rattle.std.specs.Prelude.{ℕ, ◌<◌, ◌≡◌, Result, Ok, Err}
use Rattle.reading.specs.declared.Outcome.{Outcome}
use Rattle.reading.specs.declared.Outcome.TheVariants.{Base, Experimental}
use Rattle.reading.specs.declared.Verdict.{Verdict}

-- the paper's number of a result, B or X
unfoldable pub number_of : Outcome → ℕ
number_of (Base n) = n
number_of (Experimental n) = n

-- the fault of an AVP that begins at a place; of the header; a kind that is missing
abbrev pub fault_at : ℕ → ℕ → Verdict
fault_at n at = record { result = Base n; place = at; lacks = 0 }

abbrev pub fault_of : ℕ → Verdict
fault_of n = record { result = Base n; place = 0; lacks = 0 }

abbrev pub lack_of : ℕ → Verdict
lack_of k = record { result = Base 5005; place = 0; lacks = k }

-- the code's answer to a fault's number, which is 0 where there is none
abbrev pub Faulted : Result (Unit {0}) ℕ → ℕ → Type 0
Faulted (Ok u) n = n ≡ 0
Faulted (Err m) n = (0 < n) × (m ≡ n)
