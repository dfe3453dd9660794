use Rattle.octets.specs.Standard.{rules}
use Rattle.importing.proofs.High.{enough_short, enough_127, enough_128}
use Rattle.importing.proofs.above.enough_high.Goals as goal

pub returns-then-name-lt127 : goal.returns-then-name-lt127
returns-then-name-lt127 c = search (rules, enough_short)

pub returns-then-name-lt128 : goal.returns-then-name-lt128
returns-then-name-lt128 c = search (rules, enough_127)

pub returns : goal.returns
returns c = search (rules, enough_128)
