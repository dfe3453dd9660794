use Rattle.diameter.proofs.Reading.{read_here}
use Rattle.requests.proofs.Placed.{place_empty, place_value}
use Rattle.octets.specs.Standard.{rules}
use Rattle.requests.proofs.places.value_of_place.Goals as goal

pub returns-in_default : goal.returns-in_default
returns-in_default c = search (rules, place_empty)

pub value_of-requires : goal.value_of-requires
value_of-requires c = search (rules, read_here)

pub returns : goal.returns
returns c = search (rules, place_value)
