use Rattle.assignment.proofs.Looks.{owned_all}
use Rattle.octets.specs.Standard.{rules}
use Rattle.plain_assignment.proofs.owned.Goals as goal

pub returns : goal.returns
returns c = search (rules, owned_all)
