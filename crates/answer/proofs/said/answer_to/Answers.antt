use Rattle.answer.proofs.Saying.{promise_fits, said_served}
use Rattle.octets.specs.Standard.{rules}
use Rattle.answer.proofs.said.answer_to.Goals as goal

pub put_said-requires : goal.put_said-requires
put_said-requires c = search (rules, promise_fits)

pub returns : goal.returns
returns c = search (rules, said_served)
