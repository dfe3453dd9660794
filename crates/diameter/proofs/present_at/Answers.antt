use Rattle.diameter.proofs.Parts.{present_is}
use Rattle.octets.specs.Standard.{rules}
use Rattle.diameter.proofs.present_at.Goals as goal

pub returns : goal.returns
returns c = search (rules, present_is)
