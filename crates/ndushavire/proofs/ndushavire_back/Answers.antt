use Rattle.ndushavire.proofs.Words.{back_promised}
use Rattle.octets.specs.Standard.{rules}
use Rattle.ndushavire.proofs.ndushavire_back.Goals as goal

pub returns : goal.returns
returns c = search (rules, back_promised)
