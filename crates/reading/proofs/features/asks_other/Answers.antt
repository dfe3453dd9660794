use Rattle.reading.proofs.Asking.{other_asked}
use Rattle.octets.specs.Standard.{rules}
use Rattle.reading.proofs.features.asks_other.Goals as goal

pub returns : goal.returns
returns c = search (rules, other_asked)
