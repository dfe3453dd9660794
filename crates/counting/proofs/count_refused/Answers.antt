use Rattle.counting.proofs.Steps.{refused_steps}
use Rattle.octets.specs.Standard.{rules}
use Rattle.counting.proofs.count_refused.Goals as goal

pub returns : goal.returns
returns c = search (rules, refused_steps)
