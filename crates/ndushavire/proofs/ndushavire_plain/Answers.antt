use Rattle.ndushavire.proofs.Words.{plain_promised}
use Rattle.octets.specs.Standard.{rules}
use Rattle.ndushavire.proofs.ndushavire_plain.Goals as goal

pub returns : goal.returns
returns c = search (rules, plain_promised)
