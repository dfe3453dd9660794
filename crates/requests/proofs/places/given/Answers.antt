use Rattle.requests.proofs.Placed.{given_placed}
use Rattle.octets.specs.Standard.{rules}
use Rattle.requests.proofs.places.given.Goals as goal

pub returns : goal.returns
returns c = search (rules, given_placed)
