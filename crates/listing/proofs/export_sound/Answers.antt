use Rattle.octets.specs.Standard.{rules}
use Rattle.table.proofs.Sound.{sound_few, sound_size}
use Rattle.listing.proofs.Ways.{table_long, sound_second, sound_first}
use Rattle.listing.proofs.export_sound.Goals as goal

pub bounds-t-1 : goal.bounds-t-1
bounds-t-1 c = search (rules, table_long)

pub first_unlisted-names-requires : goal.first_unlisted-names-requires
first_unlisted-names-requires c = search (rules, sound_few, sound_size)

pub returns-then-t-eq-SECOND_EDITION : goal.returns-then-t-eq-SECOND_EDITION
returns-then-t-eq-SECOND_EDITION c = search (rules, sound_second)

pub returns : goal.returns
returns c = search (rules, sound_first)
