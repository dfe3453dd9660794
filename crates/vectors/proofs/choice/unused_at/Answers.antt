use Rattle.vectors.proofs.Choosing.{unused_block}
use Rattle.octets.specs.Standard.{rules}
use Rattle.vectors.proofs.choice.unused_at.Goals as goal

pub returns : goal.returns
returns c = search (rules, unused_block)
