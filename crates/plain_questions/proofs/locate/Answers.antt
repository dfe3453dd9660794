use Rattle.octets.specs.Standard.{rules}
use Rattle.questions.proofs.Questions.{found_room}
use Rattle.plain_questions.proofs.locate.Goals as goal

pub block-requires : goal.block-requires
block-requires c = search (rules, found_room)
