use Rattle.pen.proofs.Writers.{wrote_avp}
use Rattle.octets.specs.Standard.{rules}
use Rattle.pen.proofs.put_avp.Goals as goal

pub returns : goal.returns
returns c = search (rules, wrote_avp)
