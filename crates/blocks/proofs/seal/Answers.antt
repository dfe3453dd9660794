use Rattle.blocks.proofs.Sealed.{seal_put}
use Rattle.octets.specs.Standard.{rules}
use Rattle.blocks.proofs.seal.Goals as goal

pub returns : goal.returns
returns c = search (rules, seal_put)
