use Rattle.pen.proofs.Writers.{wrote_vendor}
use Rattle.octets.specs.Standard.{rules}
use Rattle.pen.proofs.put_vendor_avp.Goals as goal

pub returns : goal.returns
returns c = search (rules, wrote_vendor)
