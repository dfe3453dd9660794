use Rattle.octets.specs.Standard.{◌≤◌, length, drop}
use Rattle.octets.proofs.Writes.{Going}
use Rattle.quoting.specs.Quoted.{doubled}
use Rattle.quoting.proofs.put_doubled.Given as goal

abbrev pub invariant-loop-x : goal.invariant-loop-x
invariant-loop-x l = (l.n ≤ length l.initial.out) × Going l.initial.out l.out l.n (doubled (drop l.x-index l.name)) (doubled l.name)
