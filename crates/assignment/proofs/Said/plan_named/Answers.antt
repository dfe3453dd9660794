use Rattle.lookup.proofs.Among.{public_among}
use Rattle.assignment.proofs.Plans.{found_first, named_plan}
use Rattle.octets.specs.Standard.{rules}
use Rattle.assignment.proofs.Said.plan_named.Goals as goal

pub survey-v-requires : goal.survey-v-requires
survey-v-requires c = search (rules, found_first)

pub user_known-requires : goal.user_known-requires
user_known-requires c = search (rules, public_among)

pub returns : goal.returns
returns c = search (rules, named_plan)
