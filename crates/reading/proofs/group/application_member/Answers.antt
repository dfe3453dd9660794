use Rattle.reading.proofs.Members.{first_member, second_member}
use Rattle.octets.specs.Standard.{rules}
use Rattle.reading.proofs.group.application_member.Goals as goal

pub returns-in-0 : goal.returns-in-0
returns-in-0 c = search (rules, first_member)

pub returns-in_default : goal.returns-in_default
returns-in_default c = search (rules, second_member)
