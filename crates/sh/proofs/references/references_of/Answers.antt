use Rattle.octets.specs.Standard.{rules}
use Rattle.diameter.proofs.Reading.{read_here}
use Rattle.reading.proofs.Walking.{read_less}
use Rattle.sh.proofs.Referring.{refer_more, other_more, refs_end, refs_cut}
use Rattle.sh.proofs.references.references_of.Goals as goal

pub returns-in_default : goal.returns-in_default
returns-in_default c = search (rules, refs_cut)

pub kind_of-here-requires : goal.kind_of-here-requires
kind_of-here-requires c = search (rules, read_here)

pub value_of-n-requires : goal.value_of-n-requires
value_of-n-requires c = search (rules, read_here)

pub loop-at-smaller : goal.loop-at-smaller
loop-at-smaller c = search (rules, read_less)

pub loop-at-preserved : goal.loop-at-preserved
loop-at-preserved c = (search (rules, refer_more), search (rules, refer_more), search (rules, other_more))

pub returns : goal.returns
returns c = search (rules, refs_end)
