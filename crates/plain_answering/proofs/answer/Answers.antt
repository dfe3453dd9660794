use Rattle.octets.specs.Standard.{rules}
use Rattle.answering.proofs.Whole.{body_room_lem, answer_bounded, wrote_answer}
use Rattle.plain_answering.proofs.answer.Goals as goal

pub put_body-n-requires : goal.put_body-n-requires
put_body-n-requires c = search (rules, body_room_lem)

pub returns : goal.returns
returns c = search (rules, answer_bounded, wrote_answer)
