use Rattle.octets.specs.Standard.{rules}
use Rattle.table.proofs.Remembered.{find_first, find_more, find_here, slot_before}
use Rattle.table.proofs.members.find.Goals as goal

pub loop-hash-init : goal.loop-hash-init
loop-hash-init c = search (rules, find_first)

pub stops-requires : goal.stops-requires
stops-requires c = search (rules, slot_before)

pub returns-then-stops : goal.returns-then-stops
returns-then-stops c = search (rules, find_here)

pub loop-hash-preserved : goal.loop-hash-preserved
loop-hash-preserved c = search (rules, find_more)
