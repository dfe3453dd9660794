use Rattle.table.proofs.Sound.{sound_first}
use Rattle.lookup.proofs.Places.{roams_there}
use Rattle.octets.specs.Standard.{rules}
use Rattle.lookup.proofs.may_roam.Goals as goal

pub block-requires : goal.block-requires
block-requires c = search (rules, sound_first)

pub returns : goal.returns
returns c = search (rules, roams_there)
