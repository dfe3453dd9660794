use Rattle.lookup.proofs.Scans.{private_known}
use Rattle.table.proofs.Sound.{sound_block}
use Rattle.octets.specs.Standard.{rules}
use Rattle.lookup.proofs.known_near.Goals as goal

pub block-requires : goal.block-requires
block-requires c = search (rules, sound_block)

pub returns-then-belongs : goal.returns-then-belongs
returns-then-belongs c = search (rules, private_known)
