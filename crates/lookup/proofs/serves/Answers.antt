use Rattle.lookup.proofs.Scans.{serves_none, serves_some}
use Rattle.octets.specs.Standard.{rules}
use Rattle.lookup.proofs.serves.Goals as goal

pub returns-then-b-ne0 : goal.returns-then-b-ne0
returns-then-b-ne0 c = search (rules, serves_some)

pub returns-else-b-ne0 : goal.returns-else-b-ne0
returns-else-b-ne0 c = search (rules, serves_none)
