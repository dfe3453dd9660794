use Rattle.assignment.proofs.NameTurns.{means_owned, means_none, means_removal, means_one, means_second}
use Rattle.octets.specs.Standard.{rules}
use Rattle.assignment.proofs.naming.meant_by.Goals as goal

pub returns-then-removal-named : goal.returns-then-removal-named
returns-then-removal-named c = search (rules, means_owned)

pub returns-in_default : goal.returns-in_default
returns-in_default c = search (rules, means_none)

pub returns-then-removal : goal.returns-then-removal
returns-then-removal c = search (rules, means_removal)

pub returns-in-None : goal.returns-in-None
returns-in-None c = search (rules, means_one)

pub returns-in-Some-next_identity : goal.returns-in-Some-next_identity
returns-in-Some-next_identity c = search (rules, means_second)
