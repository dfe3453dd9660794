use Rattle.octets.specs.Standard.{true, ◌≡◌}
use Rattle.octets.specs.All.{all_below}
use Rattle.taking.specs.Found.{greater_at}
use Rattle.taking.proofs.greater_than_all.Given as goal

abbrev pub invariant-loop-k : goal.invariant-loop-k
invariant-loop-k l = true ≡ all_below (greater_at l.area l.issue) l.k
