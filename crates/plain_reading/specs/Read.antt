-- What reading by the list answers: the places of the AVPs by their kinds, or the first fault.
use Rattle.std.specs.Prelude.{ℕ, List, Result, Ok, Err}
use Rattle.reading.specs.declared.Verdict.{Verdict}
use Rattle.reading.specs.Places.{seen_of}
use Rattle.requests.specs.Judged.{Judged, bad, fine}

abbrev pub read_as : List ℕ → Result (List ℕ) Verdict → Judged
read_as s (Ok places) = fine (seen_of s places)
read_as s (Err v) = bad v
