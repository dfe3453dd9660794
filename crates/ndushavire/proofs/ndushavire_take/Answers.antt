use Rattle.ndushavire.proofs.Words.{take_promised}
use Rattle.octets.specs.Standard.{rules}
use Rattle.ndushavire.proofs.ndushavire_take.Goals as goal

pub returns : goal.returns
returns c = search (rules, take_promised)
