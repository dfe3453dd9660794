use Rattle.octets.specs.Standard.{rules}
use Rattle.table.proofs.Leading.{leading_all, leading_more, leading_stop, leading_end}
use Rattle.table.proofs.Remembered.{remember_none, agreed_none, agreed_more}
use Rattle.table.proofs.members.agreeing.Goals as goal

pub loop-m-init : goal.loop-m-init
loop-m-init c = search (rules, leading_all, remember_none, agreed_none)

pub loop-m-preserved : goal.loop-m-preserved
loop-m-preserved c = search (rules, leading_more, agreed_more)

pub returns-then-not-agrees_by : goal.returns-then-not-agrees_by
returns-then-not-agrees_by c = search (rules, leading_stop)

pub returns : goal.returns
returns c = search (rules, leading_end)
