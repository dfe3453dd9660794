use Rattle.requests.proofs.Placed.{value_placed}
use Rattle.octets.specs.Standard.{rules}
use Rattle.requests.proofs.places.value_of.Goals as goal

pub returns : goal.returns
returns c = search (rules, value_placed)
