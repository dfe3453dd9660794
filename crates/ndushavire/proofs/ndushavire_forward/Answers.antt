use Rattle.ndushavire.proofs.Words.{forward_promised}
use Rattle.octets.specs.Standard.{rules}
use Rattle.ndushavire.proofs.ndushavire_forward.Goals as goal

pub returns : goal.returns
returns c = search (rules, forward_promised)
