use Rattle.octets.specs.Number.{be24_at}
use Rattle.octets.specs.Standard.{rules}
use Rattle.octets.proofs.number.be24.Goals as goal

pub returns : goal.returns
unfolding be24_at
returns c = search rules
