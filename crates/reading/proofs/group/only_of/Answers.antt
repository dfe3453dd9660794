use Rattle.octets.specs.Standard.{rules}
use Rattle.diameter.proofs.Parts.{member_here}
use Rattle.reading.proofs.Walking.{read_less}
use Rattle.reading.proofs.Members.{only_cut, only_other, only_more, only_end}
use Rattle.reading.proofs.group.only_of.Goals as goal

pub returns-in_default : goal.returns-in_default
returns-in_default c = search (rules, only_cut)

pub is_other-requires : goal.is_other-requires
is_other-requires c = search (rules, member_here)

pub returns-then-is_other : goal.returns-then-is_other
returns-then-is_other c = search (rules, only_other)

pub loop-at-smaller : goal.loop-at-smaller
loop-at-smaller c = search (rules, read_less)

pub loop-at-preserved : goal.loop-at-preserved
loop-at-preserved c = search (rules, only_more)

pub returns : goal.returns
returns c = search (rules, only_end)
