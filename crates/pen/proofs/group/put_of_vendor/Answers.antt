use Rattle.pen.proofs.Groups.{wrote_pair}
use Rattle.octets.specs.Standard.{rules}
use Rattle.pen.proofs.group.put_of_vendor.Goals as goal

pub returns : goal.returns
returns c = search (rules, wrote_pair)
