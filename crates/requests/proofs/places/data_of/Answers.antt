use Rattle.requests.proofs.Placed.{data_placed}
use Rattle.octets.specs.Standard.{rules}
use Rattle.requests.proofs.places.data_of.Goals as goal

pub returns : goal.returns
returns c = search (rules, data_placed)
