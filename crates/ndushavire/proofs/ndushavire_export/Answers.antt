use Rattle.ndushavire.proofs.Words.{export_promised}
use Rattle.octets.specs.Standard.{rules}
use Rattle.ndushavire.proofs.ndushavire_export.Goals as goal

pub returns : goal.returns
returns c = search (rules, export_promised)
