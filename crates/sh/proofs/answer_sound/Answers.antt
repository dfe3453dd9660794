use Rattle.sh.proofs.Rooms.{answer_most}
use Rattle.sh.proofs.Answers.{replies}
use Rattle.octets.specs.Standard.{rules}
use Rattle.sh.proofs.answer_sound.Goals as goal

pub answer-length-requires : goal.answer-length-requires
answer-length-requires c = search (rules, answer_most)

pub returns : goal.returns
returns c = search (rules, replies)
