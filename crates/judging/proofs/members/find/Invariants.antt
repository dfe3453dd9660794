use Rattle.octets.specs.Standard.{◌-◌}
use Rattle.table.specs.Remembered.{SlotsPassed}
use Rattle.importing.specs.Said.{table_said}
use Rattle.judging.proofs.members.find.Given as goal

abbrev pub invariant-loop-hash : goal.invariant-loop-hash
invariant-loop-hash l = SlotsPassed (table_said l.list l.header) l.slots l.hash l.k l.i

abbrev pub decreases-loop-hash : goal.decreases-loop-hash
decreases-loop-hash l = 4608 - l.i
