use Rattle.pen.specs.Bytes.{vendor_head}
use Rattle.pen.proofs.put_vendor_head.Goals as goal

pub returns : goal.returns
unfolding vendor_head
returns c = c.put_long_head.ensures
