use Rattle.counting.proofs.Columns.{cell_there}
use Rattle.octets.specs.Standard.{rules}
use Rattle.counting.proofs.cell_of.Goals as goal

pub returns : goal.returns
returns c = search (rules, cell_there)
