use Rattle.octets.specs.Standard.{◌-◌, ◌≡◌, length, drop}
use Rattle.diameter.specs.Walk.{walk}
use Rattle.reading.specs.Kinds.{kinds}
use Rattle.requests.specs.Judged.{nothing, judge}
use Rattle.reading.specs.Places.{seen_of}
use Rattle.requests.proofs.walk.walk_message.Given as goal

abbrev pub invariant-loop-at : goal.invariant-loop-at
invariant-loop-at l =
    (length l.found ≡ kinds) × (judge l.d l.at (walk (drop l.at l.s)) (seen_of l.s l.found) ≡ judge l.d 20 (walk (drop 20 l.s)) nothing)

abbrev pub decreases-loop-at : goal.decreases-loop-at
decreases-loop-at l = length l.s - l.at
