use Rattle.octets.specs.Standard.{rules}
use Rattle.lookup.proofs.Scans.{alone_free, alone_barred}
use Rattle.lookup.proofs.barred_alone.Goals as goal

pub returns-then-barred : goal.returns-then-barred
returns-then-barred c = search (rules, alone_barred)

pub returns-else-barred : goal.returns-else-barred
returns-else-barred c = search (rules, alone_free)
