use Rattle.deciding.proofs.Answering.{plan_room, plan_tells, plan_table, plan_vectors}
use Rattle.octets.specs.Standard.{rules}
use Rattle.deciding.proofs.answer_read.Goals as goal

pub answer-length-requires : goal.answer-length-requires
answer-length-requires c = (search rules, search rules, search rules, search rules, search (rules, plan_room), search rules)

pub returns : goal.returns
returns c = (search (rules, plan_tells), search (rules, plan_table), search (rules, plan_vectors))
