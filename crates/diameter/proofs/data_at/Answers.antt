use Rattle.diameter.proofs.Parts.{data_there}
use Rattle.octets.specs.Standard.{rules}
use Rattle.diameter.proofs.data_at.Goals as goal

pub returns : goal.returns
returns c = search (rules, data_there)
