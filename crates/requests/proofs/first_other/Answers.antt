use Rattle.diameter.proofs.Reading.{read_here}
use Rattle.requests.proofs.Requests.{first_none, first_is}
use Rattle.octets.specs.Standard.{rules}
use Rattle.requests.proofs.first_other.Goals as goal

pub returns-in_default : goal.returns-in_default
returns-in_default c = search (rules, first_none)

pub kind_of-requires : goal.kind_of-requires
kind_of-requires c = search (rules, read_here)

pub returns : goal.returns
returns c = search (rules, first_is)
