use Rattle.octets.specs.Number.{be32_at}
use Rattle.octets.specs.Standard.{rules}
use Rattle.octets.proofs.number.be32.Goals as goal

pub returns : goal.returns
unfolding be32_at
returns c = search rules
