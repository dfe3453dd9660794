use Rattle.octets.specs.Standard.{arith, rules}
use Rattle.octets.proofs.Writes.{then}
use Rattle.envelope.specs.Front.{front_bytes}
use Rattle.envelope.proofs.front.put_start.Goals as goal

pub returns : goal.returns
unfolding front_bytes
returns c = (omega arith, search (rules, then))
