use Rattle.table.proofs.Sound.{sound_first}
use Rattle.plain_lookup.proofs.Looks.{name_room, name_lent}
use Rattle.octets.specs.Standard.{rules}
use Rattle.plain_lookup.proofs.network_name.Goals as goal

pub block-h-requires : goal.block-h-requires
block-h-requires c = search (rules, sound_first)

pub slice_bounds-result-end : goal.slice_bounds-result-end
slice_bounds-result-end c = search (rules, name_room)

pub returns : goal.returns
returns c = search (rules, name_lent)
