use Rattle.octets.proofs.Orders.{last_alike, last_differ}
use Rattle.octets.specs.Standard.{rules}
use Rattle.octets.proofs.name.by_last.Goals as goal

pub returns-then-a-b : goal.returns-then-a-b
returns-then-a-b c = search (rules, last_alike)

pub returns-else-a-b : goal.returns-else-a-b
returns-else-a-b c = search (rules, last_differ)
