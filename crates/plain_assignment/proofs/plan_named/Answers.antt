use Rattle.octets.specs.Standard.{rules}
use Rattle.assignment.proofs.Plans.{found_first}
use Rattle.plain_assignment.proofs.Surveyed.{named_plan}
use Rattle.plain_assignment.proofs.plan_named.Goals as goal

pub survey_by-v-requires : goal.survey_by-v-requires
survey_by-v-requires c = search (rules, found_first)

pub returns : goal.returns
returns c = search (rules, named_plan)
