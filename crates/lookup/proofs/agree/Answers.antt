use Rattle.lookup.proofs.Places.{agree_none, agree_some}
use Rattle.octets.specs.Standard.{rules}
use Rattle.lookup.proofs.agree.Goals as goal

pub returns-then-i-eq0 : goal.returns-then-i-eq0
returns-then-i-eq0 c = search (rules, agree_none)

pub returns-else-i-eq0 : goal.returns-else-i-eq0
returns-else-i-eq0 c = search (rules, agree_some)
