use Rattle.parts.proofs.Fields.{realm_there, realm_short}
use Rattle.table.proofs.Sound.{sound_first}
use Rattle.octets.specs.Standard.{rules}
use Rattle.parts.proofs.realm.Goals as goal

pub block-requires : goal.block-requires
block-requires c = search (rules, sound_first)

pub returns : goal.returns
returns c = search (rules, realm_there, realm_short)
