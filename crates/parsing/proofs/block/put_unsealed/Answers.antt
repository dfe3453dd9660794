use Rattle.octets.specs.Standard.{rules}
use Rattle.parsing.proofs.Written.{wrote_unsealed}
use Rattle.parsing.proofs.block.put_unsealed.Goals as goal

pub returns : goal.returns
returns c = search (rules, wrote_unsealed)
