use Rattle.octets.specs.Standard.{rules}
use Rattle.octets.proofs.All.{all_none}
use Rattle.table.proofs.Sound.{sound_first}
use Rattle.lookup.proofs.Places.{places_start, places_few, places_end, bytes_more, place_miss, place_hit}
use Rattle.lookup.proofs.network.Goals as goal

pub block-h-requires : goal.block-h-requires
block-h-requires c = search (rules, sound_first)

pub places-init : goal.places-init
places-init c = (search (rules, places_few), search rules, search (rules, places_start))

pub loop-h-init : goal.loop-h-init
loop-h-init c = search (rules, all_none)

pub loop-h-preserved : goal.loop-h-preserved
loop-h-preserved c = (search rules, search (rules, bytes_more))

pub places-preserved : goal.places-preserved
places-preserved c = (search rules, search rules, search (rules, place_miss))

pub returns-after-places : goal.returns-after-places
returns-after-places c = search (rules, places_end)

pub returns-then-i-name : goal.returns-then-i-name
returns-then-i-name c = search (rules, place_hit)
