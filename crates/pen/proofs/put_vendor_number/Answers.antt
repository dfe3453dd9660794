use Rattle.pen.specs.Bytes.{vendor_head, vendor_number}
use Rattle.pen.proofs.put_vendor_number.Goals as goal

pub returns : goal.returns
unfolding vendor_head vendor_number
returns c = c.put_long_number.ensures
