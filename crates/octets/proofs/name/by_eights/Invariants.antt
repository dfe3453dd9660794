use Rattle.octets.specs.Standard.{◌*◌, ◌≤◌, true, ◌≡◌}
use Rattle.octets.specs.All.{all_below}
use Rattle.octets.specs.Name.{alike_at}
use Rattle.octets.proofs.name.by_eights.Given as goal

abbrev pub invariant-loop-k : goal.invariant-loop-k
invariant-loop-k l = (l.k ≤ l.to) × (true ≡ all_below (alike_at l.s l.t) (8 * l.k))
