use Rattle.requests.proofs.Sole.{member_placed}
use Rattle.octets.specs.Standard.{rules}
use Rattle.requests.proofs.places.member_of.Goals as goal

pub returns : goal.returns
returns c = search (rules, member_placed)
