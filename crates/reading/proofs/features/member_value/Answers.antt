use Rattle.octets.specs.Standard.{rules}
use Rattle.diameter.proofs.Parts.{member_here}
use Rattle.reading.proofs.Walking.{read_less}
use Rattle.reading.proofs.Asking.{value_past, value_cut, value_is, value_more}
use Rattle.reading.proofs.features.member_value.Goals as goal

pub returns-in_default : goal.returns-in_default
returns-in_default c = search (rules, value_cut)

pub is_of-requires : goal.is_of-requires
is_of-requires c = search (rules, member_here)

pub value_of-requires : goal.value_of-requires
value_of-requires c = search (rules, member_here)

pub returns-then-is_of : goal.returns-then-is_of
returns-then-is_of c = search (rules, value_is)

pub loop-at-smaller : goal.loop-at-smaller
loop-at-smaller c = search (rules, read_less)

pub loop-at-preserved : goal.loop-at-preserved
loop-at-preserved c = search (rules, value_more)

pub returns : goal.returns
returns c = search (rules, value_past)
