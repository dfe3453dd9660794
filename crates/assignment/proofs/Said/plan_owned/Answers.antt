use Rattle.octets.specs.Standard.{rules}
use Rattle.assignment.specs.Assignment.{assign_meant, owned_survey, survey_of}
use Rattle.assignment.specs.Survey.{also_known}
use Rattle.assignment.proofs.Said.plan_owned.Goals as goal

pub returns : goal.returns
unfolding assign_meant owned_survey survey_of also_known
returns c = search rules
