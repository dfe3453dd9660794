use Rattle.octets.specs.Standard.{rules}
use Rattle.plain_deciding.proofs.Saying.{plan_fits, plan_sends}
use Rattle.plain_deciding.proofs.answer_planned.Goals as goal

pub answer-length-requires : goal.answer-length-requires
answer-length-requires c = (search rules, search rules, search rules, search (rules, plan_sends), search (rules, plan_fits), search rules)
