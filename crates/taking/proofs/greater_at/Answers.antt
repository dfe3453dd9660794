use Rattle.taking.proofs.Ways.{greater_here}
use Rattle.octets.specs.Standard.{rules}
use Rattle.taking.proofs.greater_at.Goals as goal

pub returns : goal.returns
returns c = search (rules, greater_here)
