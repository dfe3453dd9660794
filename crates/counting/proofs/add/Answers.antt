use Rattle.counting.proofs.Steps.{plus_set}
use Rattle.octets.specs.Standard.{rules}
use Rattle.counting.proofs.add.Goals as goal

pub returns : goal.returns
returns c = search (rules, plus_set)
