use Rattle.octets.specs.Standard.{rules}
use Rattle.octets.proofs.Masks.{mask_made}
use Rattle.octets.proofs.run.mask.Goals as goal

pub returns : goal.returns
returns c = search (rules, mask_made)
