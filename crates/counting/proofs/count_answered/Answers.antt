use Rattle.counting.proofs.Steps.{answered_steps}
use Rattle.octets.specs.Standard.{rules}
use Rattle.counting.proofs.count_answered.Goals as goal

pub returns : goal.returns
returns c = search (rules, answered_steps)
