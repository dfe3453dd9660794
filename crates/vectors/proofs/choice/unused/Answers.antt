use Rattle.vectors.proofs.Choosing.{unused_named, used_not}
use Rattle.octets.specs.Standard.{rules}
use Rattle.vectors.proofs.choice.unused.Goals as goal

pub returns-then-b-eq0 : goal.returns-then-b-eq0
returns-then-b-eq0 c = search (rules, unused_named)

pub returns-else-b-eq0 : goal.returns-else-b-eq0
returns-else-b-eq0 c = search (rules, used_not)
