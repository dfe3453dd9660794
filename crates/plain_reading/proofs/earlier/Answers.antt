use Rattle.octets.specs.Standard.{rules}
use Rattle.plain_reading.proofs.Turns.{earlier_first, earlier_second}
use Rattle.plain_reading.proofs.earlier.Goals as goal

pub returns-then-y-x : goal.returns-then-y-x
returns-then-y-x c = search (rules, earlier_second)

pub returns-else-y-x : goal.returns-else-y-x
returns-else-y-x c = search (rules, earlier_first)
