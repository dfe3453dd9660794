use Rattle.octets.specs.Standard.{◌+◌, ◌*◌, ◌≤◌, ◌≡◌, length, drop}
use Rattle.quoting.specs.Quoted.{doubled}
use Rattle.quoting.proofs.size.Given as goal

abbrev pub invariant-loop-x : goal.invariant-loop-x
invariant-loop-x l = (l.n ≤ 2 * l.x-index) × (l.n + length (doubled (drop l.x-index l.name)) ≡ length (doubled l.name))
