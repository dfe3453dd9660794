use Rattle.octets.specs.Number.{be16_at}
use Rattle.octets.specs.Standard.{rules}
use Rattle.octets.proofs.number.be16.Goals as goal

pub returns : goal.returns
unfolding be16_at
returns c = search rules
