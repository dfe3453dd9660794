use Rattle.octets.specs.Standard.{rules}
use Rattle.judging.proofs.Fitting.{follows_first, follows_less, follows_other}
use Rattle.judging.proofs.standing.follows.Goals as goal

pub returns-then-k-le1 : goal.returns-then-k-le1
returns-then-k-le1 c = search (rules, follows_first)

pub returns-in-Less : goal.returns-in-Less
returns-in-Less c = search (rules, follows_less)

pub returns-in_default : goal.returns-in_default
returns-in_default c = search (rules, follows_other)
