use Rattle.octets.specs.Standard.{◌+◌, ◌-◌, ◌*◌, ◌≤◌, ◌≡◌, ◌++◌, length, take, drop}
use Rattle.diameter.specs.Walk.{walk}
use Rattle.plain_reading.specs.Listed.{most, places_in, places_of}
use Rattle.plain_reading.proofs.list.Given as goal

abbrev pub invariant-loop-at : goal.invariant-loop-at
invariant-loop-at l = (20 + 8 * l.n ≤ l.at) × (l.n ≤ most)
    × (take l.n l.room ++ places_in l.at (walk (drop l.at l.req)) ≡ places_of l.req)

abbrev pub decreases-loop-at : goal.decreases-loop-at
decreases-loop-at l = length l.req - l.at
