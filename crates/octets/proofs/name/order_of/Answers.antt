use Rattle.octets.specs.Standard.{rules}
use Rattle.octets.proofs.All.{all_none}
use Rattle.octets.proofs.Eights.{cmp_order}
use Rattle.octets.proofs.Orders.{alike_last}
use Rattle.octets.proofs.name.order_of.Goals as goal

pub returns-then-n-lt8 : goal.returns-then-n-lt8
returns-then-n-lt8 c = search (rules, cmp_order)

pub by_eights-requires : goal.by_eights-requires
by_eights-requires c = (search rules, search rules, search rules, search (rules, all_none))

pub by_last-requires : goal.by_last-requires
by_last-requires c = (search rules, search rules, search (rules, alike_last))
