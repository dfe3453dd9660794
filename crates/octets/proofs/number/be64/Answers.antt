use Rattle.octets.specs.Number.{be64_at}
use Rattle.octets.specs.Standard.{rules}
use Rattle.octets.proofs.number.be64.Goals as goal

pub returns : goal.returns
unfolding be64_at
returns c = search rules
