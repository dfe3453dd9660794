use Rattle.octets.specs.Standard.{rules}
use Rattle.table.proofs.Sound.{sound_few}
use Rattle.listing.proofs.Lists.{size_none, size_more, size_all, size_few}
use Rattle.listing.proofs.list_size.Goals as goal

pub loop-k-init : goal.loop-k-init
loop-k-init c = (search rules, search (rules, sound_few), search rules, search (rules, size_none))

pub loop-k-preserved : goal.loop-k-preserved
loop-k-preserved c = (search rules, search rules, search rules, search (rules, size_more))

pub returns : goal.returns
returns c = (search (rules, size_all), search (rules, size_few))
