use Rattle.octets.specs.Standard.{rules}
use Rattle.billing.proofs.Ways.{write_short, write_holds}
use Rattle.billing.proofs.write.Goals as goal

pub returns-then-area-size : goal.returns-then-area-size
returns-then-area-size c = search (rules, write_short)

pub returns : goal.returns
returns c = search (rules, write_holds)
