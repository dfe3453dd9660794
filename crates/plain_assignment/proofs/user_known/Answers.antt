use Rattle.plain_assignment.proofs.Surveyed.{user_known_lem}
use Rattle.octets.specs.Standard.{rules}
use Rattle.plain_assignment.proofs.user_known.Goals as goal

pub returns : goal.returns
returns c = search (rules, user_known_lem)
