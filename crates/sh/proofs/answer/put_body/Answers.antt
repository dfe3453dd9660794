use Rattle.sh.proofs.Answers.{wrote_body}
use Rattle.octets.specs.Standard.{rules}
use Rattle.sh.proofs.answer.put_body.Goals as goal

pub returns : goal.returns
returns c = (search rules, search (rules, wrote_body))
