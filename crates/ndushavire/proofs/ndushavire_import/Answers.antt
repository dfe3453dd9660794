use Rattle.ndushavire.proofs.Words.{import_promised}
use Rattle.octets.specs.Standard.{rules}
use Rattle.ndushavire.proofs.ndushavire_import.Goals as goal

pub returns : goal.returns
returns c = search (rules, import_promised)
