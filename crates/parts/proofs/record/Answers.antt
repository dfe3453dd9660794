use Rattle.parts.proofs.Fields.{record_room}
use Rattle.octets.specs.Standard.{rules}
use Rattle.parts.proofs.record.Goals as goal

pub block-requires : goal.block-requires
block-requires c = search (rules, record_room)
