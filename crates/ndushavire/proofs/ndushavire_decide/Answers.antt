use Rattle.ndushavire.proofs.Words.{word_promised}
use Rattle.octets.specs.Standard.{rules}
use Rattle.ndushavire.proofs.ndushavire_decide.Goals as goal

pub returns : goal.returns
returns c = search (rules, word_promised)
