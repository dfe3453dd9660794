use Rattle.reading.proofs.Members.{other_not, other_more, other_end}
use Rattle.octets.specs.Standard.{rules}
use Rattle.octets.proofs.All.{all_none}
use Rattle.reading.proofs.group.is_other.Goals as goal

pub loop-k-init : goal.loop-k-init
loop-k-init c = search (rules, all_none)

pub returns-then-fits : goal.returns-then-fits
returns-then-fits c = search (rules, other_not)

pub loop-k-preserved : goal.loop-k-preserved
loop-k-preserved c = search (rules, other_more)

pub returns : goal.returns
returns c = search (rules, other_end)
