use Rattle.deciding.proofs.Answering.{planned_uar, planned_sar, planned_lir, planned_mar}
use Rattle.octets.specs.Standard.{rules}
use Rattle.deciding.proofs.planning.plan_read.Goals as goal

pub returns-in-300 : goal.returns-in-300
returns-in-300 c = search (rules, planned_uar)

pub returns-in-301 : goal.returns-in-301
returns-in-301 c = search (rules, planned_sar)

pub returns-in-302 : goal.returns-in-302
returns-in-302 c = search (rules, planned_lir)

pub returns-in_default : goal.returns-in_default
returns-in_default c = search (rules, planned_mar)
