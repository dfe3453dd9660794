use Rattle.parts.proofs.Fields.{profile_lent}
use Rattle.octets.specs.Standard.{rules}
use Rattle.parts.proofs.profile_in.Goals as goal

pub returns : goal.returns
returns c = search (rules, profile_lent)
