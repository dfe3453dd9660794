use Rattle.octets.specs.Standard.{◌-◌}
use Rattle.table.specs.Remembered.{SlotsPassed}
use Rattle.table.proofs.members.find.Given as goal

abbrev pub invariant-loop-hash : goal.invariant-loop-hash
invariant-loop-hash l = SlotsPassed l.t l.slots l.hash l.k l.i

abbrev pub decreases-loop-hash : goal.decreases-loop-hash
decreases-loop-hash l = 4608 - l.i
