use Rattle.octets.specs.Number.{le32_at}
use Rattle.octets.specs.Standard.{rules}
use Rattle.octets.proofs.number.le32.Goals as goal

pub returns : goal.returns
unfolding le32_at
returns c = search rules
