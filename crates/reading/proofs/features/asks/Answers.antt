use Rattle.reading.proofs.Asking.{asks_marked, asks_plain}
use Rattle.octets.specs.Standard.{rules}
use Rattle.reading.proofs.features.asks.Goals as goal

pub returns-then-a-eq1 : goal.returns-then-a-eq1
returns-then-a-eq1 c = search (rules, asks_marked)

pub returns : goal.returns
returns c = search (rules, asks_plain)
