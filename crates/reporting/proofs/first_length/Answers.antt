use Rattle.reporting.proofs.Cutting.{short_none, other_none, length_first, first_some, first_within}
use Rattle.octets.specs.Standard.{rules}
use Rattle.reporting.proofs.first_length.Goals as goal

pub returns-then-s-lt-LEFT : goal.returns-then-s-lt-LEFT
returns-then-s-lt-LEFT c = search (rules, short_none)

pub returns-then-n-s : goal.returns-then-n-s
returns-then-n-s c = search (rules, other_none)

pub returns : goal.returns
returns c = (search (rules, length_first), search (rules, first_some), search (rules, first_within))
