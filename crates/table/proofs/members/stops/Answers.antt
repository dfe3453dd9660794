use Rattle.table.proofs.Remembered.{stop_empty, stop_same, stop_other}
use Rattle.octets.specs.Standard.{rules}
use Rattle.table.proofs.members.stops.Goals as goal

pub returns-then-word-eq0 : goal.returns-then-word-eq0
returns-then-word-eq0 c = search (rules, stop_empty)

pub returns-then-word-tag : goal.returns-then-word-tag
returns-then-word-tag c = search (rules, stop_same)

pub returns-else-word-tag : goal.returns-else-word-tag
returns-else-word-tag c = search (rules, stop_other)
