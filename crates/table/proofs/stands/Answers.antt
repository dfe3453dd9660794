use Rattle.table.proofs.Padded.{padded_here, stands_here, stands_not}
use Rattle.octets.specs.Standard.{rules}
use Rattle.table.proofs.stands.Goals as goal

pub rises-requires : goal.rises-requires
rises-requires c = (search rules, search rules, search rules, search (rules, padded_here))

pub returns-then-sound : goal.returns-then-sound
returns-then-sound c = search (rules, stands_here)

pub returns-else-sound : goal.returns-else-sound
returns-else-sound c = search (rules, stands_not)
