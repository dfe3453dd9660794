use Rattle.octets.specs.Standard.{rules}
use Rattle.decimals.proofs.Writing.{ending_none, ending_more, ending_all}
use Rattle.decimals.proofs.put.Goals as goal

pub loop-i-init : goal.loop-i-init
loop-i-init c = search (rules, ending_none)

pub loop-i-preserved : goal.loop-i-preserved
loop-i-preserved c = search (rules, ending_more)

pub returns : goal.returns
returns c = search (rules, ending_all)
