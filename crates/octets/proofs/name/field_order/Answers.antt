use Rattle.octets.specs.Standard.{rules}
use Rattle.octets.proofs.All.{all_none}
use Rattle.octets.proofs.Orders.{field_same}
use Rattle.octets.proofs.name.field_order.Goals as goal

pub by_eights-requires : goal.by_eights-requires
by_eights-requires c = (search rules, search rules, search rules, search (rules, all_none))

pub returns-in-None : goal.returns-in-None
returns-in-None c = search (rules, field_same)
