use Rattle.table.proofs.Leading.{records_one, records_two}
use Rattle.octets.specs.Standard.{rules}
use Rattle.table.proofs.records.Goals as goal

pub returns-then-s : goal.returns-then-s
returns-then-s c = search (rules, records_one)

pub returns : goal.returns
returns c = search (rules, records_two)
