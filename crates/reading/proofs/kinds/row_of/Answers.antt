use Rattle.reading.proofs.Known.{row_past}
use Rattle.octets.specs.Standard.{rules}
use Rattle.reading.proofs.kinds.row_of.Goals as goal

pub returns-in_default : goal.returns-in_default
returns-in_default c = search (rules, row_past)
