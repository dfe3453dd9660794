-- What the code's answer to a request says: places in the message stand for the AVPs there.
use Rattle.std.specs.Prelude.{ℕ, ◌<◌, ◌≡◌, List, Option, Some, None, Result, Ok, Err}
use Rattle.reading.specs.Places.{seen_of}
use Rattle.reading.specs.Verdicts.{fault_of}
use Rattle.reading.specs.declared.Verdict.{Verdict}
use Rattle.requests.specs.Judged.{Judged, bad, fine}

-- what reading answers: that the request was read, or its first fault
abbrev pub Walked : Type 0
Walked = Result (Unit {0}) Verdict

-- the AVPs at the places that were lent to the reading, or a verdict
unfoldable pub judged_of : List ℕ → List ℕ → Walked → Judged
judged_of s places (Ok u) = fine (seen_of s places)
judged_of s places (Err v) = bad v

-- the header's fault of a number, which is 0 where there is none
abbrev pub Headed : Walked → ℕ → Type 0
Headed (Ok u) n = n ≡ 0
Headed (Err v) n = (0 < n) × (v ≡ fault_of n)

-- the first missing kind of a number, which is 0 where none is
abbrev pub Missed : Option ℕ → ℕ → Type 0
Missed None n = n ≡ 0
Missed (Some k) n = (0 < n) × (k ≡ n)
