use Rattle.octets.specs.Standard.{◌-◌, ◌≤◌, ◌≡◌, length, drop}
use Rattle.diameter.specs.Walk.{walk}
use Rattle.requests.specs.Identity.{places_from}
use Rattle.requests.proofs.identities.next_identity.Given as goal

abbrev pub invariant-loop-at : goal.invariant-loop-at
invariant-loop-at l = (l.from ≤ l.at) × (places_from l.at (walk (drop l.at l.s)) ≡ places_from l.from (walk (drop l.from l.s)))

abbrev pub decreases-loop-at : goal.decreases-loop-at
decreases-loop-at l = length l.s - l.at
