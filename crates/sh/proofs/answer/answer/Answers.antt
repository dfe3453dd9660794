use Rattle.sh.proofs.Answers.{answer_bounded, wrote_answer}
use Rattle.octets.specs.Standard.{rules}
use Rattle.sh.proofs.answer.answer.Goals as goal

pub returns : goal.returns
returns c = (search (rules, answer_bounded), search (rules, wrote_answer))
