use Rattle.octets.specs.Standard.{rules}
use Rattle.assignment.proofs.Plans.{first_room}
use Rattle.plain_assignment.proofs.survey_by.Goals as goal

pub block-requires : goal.block-requires
block-requires c = search (rules, first_room)
