use Rattle.diameter.proofs.Parts.{avp_there}
use Rattle.octets.specs.Standard.{rules}
use Rattle.diameter.proofs.avp_part.Goals as goal

pub returns : goal.returns
returns c = search (rules, avp_there)
