use Rattle.octets.specs.Standard.{◌≤◌, ◌-◌, ◌+◌, ◌*◌, length, ◌≡◌}
use Rattle.lookup.specs.Find.{first_from, find_public, public_is}
use Rattle.lookup.proofs.find_public.Given as goal

abbrev pub invariant-loop-low : goal.invariant-loop-low
invariant-loop-low l =
    (l.count ≤ 4096) × (length l.t ≡ 512 * (l.count + 1))
    × (1 ≤ l.low) × (l.high ≤ l.count + 1) × (find_public l.t l.count l.name ≡ first_from (public_is l.t l.name) (l.high - l.low) l.low)

abbrev pub decreases-loop-low : goal.decreases-loop-low
decreases-loop-low l = l.high - l.low
