use Rattle.table.proofs.Padded.{field_less, field_equal, field_greater}
use Rattle.octets.specs.Standard.{rules}
use Rattle.table.proofs.less.Goals as goal

pub returns-in-Less : goal.returns-in-Less
returns-in-Less c = search (rules, field_less)

pub returns-in-Equal : goal.returns-in-Equal
returns-in-Equal c = search (rules, field_equal)

pub returns-in-Greater : goal.returns-in-Greater
returns-in-Greater c = search (rules, field_greater)
