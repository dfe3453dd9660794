use Rattle.octets.specs.Standard.{rules}
use Rattle.table.proofs.Remembered.{find_first}
use Rattle.judging.proofs.Slots.{reached, search_more, search_here}
use Rattle.judging.proofs.members.find.Goals as goal

pub loop-hash-init : goal.loop-hash-init
loop-hash-init c = search (rules, find_first)

pub stops-requires : goal.stops-requires
stops-requires c = (search rules, search (rules, reached))

pub returns-then-stops : goal.returns-then-stops
returns-then-stops c = search (rules, search_here)

pub loop-hash-preserved : goal.loop-hash-preserved
loop-hash-preserved c = search (rules, search_more)
