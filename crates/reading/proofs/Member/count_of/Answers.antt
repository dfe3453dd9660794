use Rattle.octets.specs.Standard.{rules}
use Rattle.diameter.proofs.Parts.{member_here}
use Rattle.reading.proofs.Walking.{read_less, read_from_lem}
use Rattle.reading.proofs.Members.{count_start, count_cut, count_one, count_other, count_room, count_end}
use Rattle.reading.proofs.Member.count_of.Goals as goal

pub loop-at-init : goal.loop-at-init
loop-at-init c = search (rules, count_start)

pub returns-in_default : goal.returns-in_default
returns-in_default c = search (rules, count_cut)

pub fits-requires : goal.fits-requires
fits-requires c = search (rules, member_here)

pub loop-at-smaller-then-fits : goal.loop-at-smaller-then-fits
loop-at-smaller-then-fits c = search (rules, read_less)

pub loop-at-preserved-then-fits : goal.loop-at-preserved-then-fits
loop-at-preserved-then-fits c = search (rules, count_one, count_room)

pub loop-at-smaller : goal.loop-at-smaller
loop-at-smaller c = search (rules, read_less)

pub loop-at-preserved : goal.loop-at-preserved
loop-at-preserved c = search (rules, count_other, read_from_lem)

pub returns : goal.returns
returns c = search (rules, count_end)
