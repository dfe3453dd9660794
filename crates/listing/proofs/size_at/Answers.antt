use Rattle.octets.specs.Standard.{rules}
use Rattle.table.proofs.Sound.{sound_block}
use Rattle.listing.proofs.Lists.{short_at, size_at, size_short}
use Rattle.listing.proofs.size_at.Goals as goal

pub block-requires : goal.block-requires
block-requires c = search (rules, sound_block)

pub line_size-requires : goal.line_size-requires
line_size-requires c = search (rules, short_at)

pub returns : goal.returns
returns c = (search (rules, size_at), search (rules, size_short))
