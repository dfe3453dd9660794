use Rattle.octets.specs.Number.{le64_at}
use Rattle.octets.specs.Standard.{rules}
use Rattle.octets.proofs.number.le64.Goals as goal

pub returns : goal.returns
unfolding le64_at
returns c = search rules
