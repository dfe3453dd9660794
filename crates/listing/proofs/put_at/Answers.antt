use Rattle.octets.specs.Standard.{rules}
use Rattle.table.proofs.Sound.{sound_block}
use Rattle.listing.proofs.Lists.{line_fits, line_at}
use Rattle.listing.proofs.put_at.Goals as goal

pub block-requires : goal.block-requires
block-requires c = search (rules, sound_block)

pub put_line-requires : goal.put_line-requires
put_line-requires c = search (rules, line_fits)

pub returns : goal.returns
returns c = (search rules, search (rules, line_at))
