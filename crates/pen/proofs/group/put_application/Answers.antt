use Rattle.pen.specs.Groups.{vendor_application}
use Rattle.octets.specs.Standard.{rules}
use Rattle.pen.proofs.group.put_application.Goals as goal

pub returns : goal.returns
unfolding vendor_application
returns c = search rules
