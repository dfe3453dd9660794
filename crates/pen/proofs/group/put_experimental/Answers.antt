use Rattle.pen.specs.Groups.{experimental}
use Rattle.octets.specs.Standard.{rules}
use Rattle.pen.proofs.group.put_experimental.Goals as goal

pub returns : goal.returns
unfolding experimental
returns c = search rules
