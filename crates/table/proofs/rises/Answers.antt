use Rattle.table.proofs.Rising.{rises_first, rises_later}
use Rattle.table.proofs.Padded.{padded_before, padded_lent}
use Rattle.octets.specs.Standard.{rules}
use Rattle.table.proofs.rises.Goals as goal

pub returns-then-k-le1 : goal.returns-then-k-le1
returns-then-k-le1 c = search (rules, rises_first)

pub less-requires : goal.less-requires
less-requires c = (search (rules, padded_before), search (rules, padded_lent))

pub returns-else-k-le1 : goal.returns-else-k-le1
returns-else-k-le1 c = search (rules, rises_later)
