use Rattle.pen.proofs.Groups.{wrote_failed}
use Rattle.octets.specs.Standard.{rules}
use Rattle.pen.proofs.group.put_failed.Goals as goal

pub returns : goal.returns
returns c = search (rules, wrote_failed)
