use Rattle.ndushavire.proofs.Words.{check_kept}
use Rattle.octets.specs.Standard.{rules}
use Rattle.ndushavire.proofs.ndushavire_check.Goals as goal

pub returns : goal.returns
returns c = search (rules, check_kept)
