use Rattle.plain_table.proofs.Comparing.{sum_none, sum_more, sum_all}
use Rattle.octets.specs.Standard.{rules}
use Rattle.plain_table.proofs.bytes.sum.Goals as goal

pub loop-i-init : goal.loop-i-init
loop-i-init c = search (rules, sum_none)

pub loop-i-preserved : goal.loop-i-preserved
loop-i-preserved c = search (rules, sum_more)

pub returns : goal.returns
returns c = search (rules, sum_all)
