use Rattle.octets.specs.Standard.{rules}
use Rattle.judging.proofs.Slots.{by_empty, by_same, by_other, read_empty, read_same, read_other, reach_least}
use Rattle.judging.proofs.members.stops.Goals as goal

pub returns-then-word-eq0 : goal.returns-then-word-eq0
returns-then-word-eq0 c = (search (rules, by_empty), search (rules, read_empty))

pub again-requires : goal.again-requires
again-requires c = (search (rules, reach_least), search rules, search rules, search rules)

pub returns-then-word-tag : goal.returns-then-word-tag
returns-then-word-tag c = (search (rules, by_same), search (rules, read_same))

pub returns : goal.returns
returns c = (search (rules, by_other), search (rules, read_other))
