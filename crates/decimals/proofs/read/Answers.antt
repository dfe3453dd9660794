use Rattle.octets.specs.Standard.{rules}
use Rattle.decimals.proofs.Reading.{number_read, number_none}
use Rattle.decimals.proofs.read.Goals as goal

pub returns-then-d-most : goal.returns-then-d-most
returns-then-d-most c = (search (rules, number_read), search rules)

pub returns-else-size-d : goal.returns-else-size-d
returns-else-size-d c = (search (rules, number_none), tt)
