use Rattle.plain_table.proofs.Tables.{rises_first, rises_later}
use Rattle.octets.specs.Standard.{rules}
use Rattle.plain_table.proofs.rises.Goals as goal

pub returns-then-k-le1 : goal.returns-then-k-le1
returns-then-k-le1 c = search (rules, rises_first)

pub returns-else-k-le1 : goal.returns-else-k-le1
returns-else-k-le1 c = search (rules, rises_later)
