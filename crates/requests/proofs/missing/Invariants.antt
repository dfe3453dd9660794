use Rattle.octets.specs.Standard.{◌≡◌, ◌∷◌, drop}
use Rattle.reading.specs.Kinds.{known, unknown}
use Rattle.requests.specs.Request.{missing_from, missing}
use Rattle.reading.specs.Places.{seen_of}
use Rattle.requests.proofs.missing.Given as goal

abbrev pub invariant-loop-k : goal.invariant-loop-k
invariant-loop-k l = missing l.d (seen_of l.s l.places) ≡ missing_from l.d (seen_of l.s l.places) (drop l.k (unknown ∷ known)) l.k
