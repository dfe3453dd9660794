use Rattle.octets.specs.Standard.{rules}
use Rattle.octets.proofs.Writes.{over_filled}
use Rattle.octets.proofs.run.clear.Goals as goal

pub returns : goal.returns
returns c = search (rules, over_filled)
