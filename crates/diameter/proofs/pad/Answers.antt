use Rattle.octets.specs.Standard.{arith}
use Rattle.diameter.specs.Avp.{padded}
use Rattle.diameter.proofs.pad.Goals as goal

pub returns : goal.returns
unfolding padded
returns c = (omega arith, omega arith, omega arith)
