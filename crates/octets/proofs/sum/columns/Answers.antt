use Rattle.octets.specs.Standard.{rules}
use Rattle.octets.proofs.Columns.{whole_none, odd_none, whole_more, odd_more, columns_end}
use Rattle.octets.proofs.sum.columns.Goals as goal

pub loop-i-init : goal.loop-i-init
loop-i-init c = search (rules, whole_none, odd_none)

pub loop-i-preserved : goal.loop-i-preserved
loop-i-preserved c = search (rules, whole_more, odd_more)

pub returns : goal.returns
returns c = search (rules, columns_end)
