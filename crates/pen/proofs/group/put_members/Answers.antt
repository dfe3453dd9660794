use Rattle.pen.proofs.Groups.{wrote_capabilities}
use Rattle.octets.specs.Standard.{rules}
use Rattle.pen.proofs.group.put_members.Goals as goal

pub returns : goal.returns
returns c = (search rules, search (rules, wrote_capabilities))
