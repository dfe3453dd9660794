use Rattle.counting.proofs.Steps.{larger_set}
use Rattle.octets.specs.Standard.{rules}
use Rattle.counting.proofs.keep_larger.Goals as goal

pub returns : goal.returns
returns c = search (rules, larger_set)
