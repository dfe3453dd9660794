use Rattle.counting.proofs.Columns.{base_column, base_few, experimental_column, experimental_few}
use Rattle.octets.specs.Standard.{rules}
use Rattle.counting.proofs.results.column_of.Goals as goal

pub returns-in-Base : goal.returns-in-Base
returns-in-Base c = search (rules, base_column, base_few)

pub returns-in-Experimental : goal.returns-in-Experimental
returns-in-Experimental c = search (rules, experimental_column, experimental_few)
