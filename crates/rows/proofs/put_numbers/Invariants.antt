use Rattle.octets.specs.Standard.{◌≤◌, length, drop}
use Rattle.octets.proofs.Writes.{Going}
use Rattle.rows.specs.Row.{numbers_line}
use Rattle.rows.proofs.put_numbers.Given as goal

abbrev pub invariant-loop-x : goal.invariant-loop-x
invariant-loop-x l = (l.n ≤ length l.initial.out) × Going l.initial.out l.out l.n (numbers_line (drop l.x-index l.ns)) (numbers_line l.ns)
