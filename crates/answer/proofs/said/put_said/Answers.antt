use Rattle.answer.proofs.Saying.{answer_within, said_answer, said_refusal}
use Rattle.octets.specs.Standard.{rules}
use Rattle.answer.proofs.said.put_said.Goals as goal

pub returns-then-number-eq0 : goal.returns-then-number-eq0
returns-then-number-eq0 c = search (rules, answer_within, said_answer)

pub returns : goal.returns
returns c = search (rules, said_refusal)
