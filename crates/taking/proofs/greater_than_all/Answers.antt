use Rattle.octets.specs.Standard.{rules}
use Rattle.octets.proofs.All.{all_none}
use Rattle.taking.proofs.Ways.{greater_end, greater_more, greater_stop}
use Rattle.taking.proofs.greater_than_all.Goals as goal

pub loop-k-init : goal.loop-k-init
loop-k-init c = search (rules, all_none)

pub returns-then-not-greater_at : goal.returns-then-not-greater_at
returns-then-not-greater_at c = search (rules, greater_stop)

pub loop-k-preserved : goal.loop-k-preserved
loop-k-preserved c = search (rules, greater_more)

pub returns : goal.returns
returns c = search (rules, greater_end)
