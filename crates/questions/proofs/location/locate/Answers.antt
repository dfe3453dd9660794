use Rattle.lookup.proofs.Among.{public_among}
use Rattle.questions.proofs.Questions.{found_room}
use Rattle.octets.specs.Standard.{rules}
use Rattle.questions.proofs.location.locate.Goals as goal

pub block-requires : goal.block-requires
block-requires c = search (rules, found_room)

pub seek-requires : goal.seek-requires
seek-requires c = search (rules, public_among)
