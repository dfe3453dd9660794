use Rattle.requests.proofs.Featured.{wanted_none}
use Rattle.octets.specs.Standard.{rules}
use Rattle.requests.proofs.features.wanted_read.Goals as goal

pub returns : goal.returns
returns c = search (rules, wanted_none)
