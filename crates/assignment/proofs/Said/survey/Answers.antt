use Rattle.assignment.proofs.Plans.{first_room}
use Rattle.octets.specs.Standard.{rules}
use Rattle.assignment.proofs.Said.survey.Goals as goal

pub block-requires : goal.block-requires
block-requires c = search (rules, first_room)
