use Rattle.octets.specs.Standard.{◌≤◌, length, drop}
use Rattle.octets.proofs.Writes.{Going}
use Rattle.markup.specs.Escapes.{escaped}
use Rattle.markup.proofs.put_escaped.Given as goal

abbrev pub invariant-loop-x : goal.invariant-loop-x
invariant-loop-x l = (l.at ≤ length l.initial.out) × Going l.initial.out l.out l.at (escaped (drop l.x-index l.name)) (escaped l.name)
