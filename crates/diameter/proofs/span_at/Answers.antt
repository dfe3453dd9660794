use Rattle.diameter.proofs.Parts.{member_here, span_none, span_there}
use Rattle.octets.specs.Standard.{rules}
use Rattle.diameter.proofs.span_at.Goals as goal

pub returns-in_default : goal.returns-in_default
returns-in_default c = search (rules, span_none)

pub span_of-requires : goal.span_of-requires
span_of-requires c = search (rules, member_here)

pub returns : goal.returns
returns c = search (rules, span_there)
