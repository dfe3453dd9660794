use Rattle.reading.proofs.Members.{vendor_member, list_member, bits_member}
use Rattle.octets.specs.Standard.{rules}
use Rattle.reading.proofs.group.feature_member.Goals as goal

pub returns-in-0 : goal.returns-in-0
returns-in-0 c = search (rules, vendor_member)

pub returns-in-1 : goal.returns-in-1
returns-in-1 c = search (rules, list_member)

pub returns-in_default : goal.returns-in_default
returns-in_default c = search (rules, bits_member)
