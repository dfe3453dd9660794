use Rattle.octets.specs.Standard.{rules}
use Rattle.octets.proofs.Writes.{going_none}
use Rattle.quoting.proofs.Writing.{turn_room, turn_more, turn_all}
use Rattle.quoting.proofs.put_doubled.Goals as goal

pub loop-x-init : goal.loop-x-init
loop-x-init c = search (rules, going_none)

pub put_byte-n-requires : goal.put_byte-n-requires
put_byte-n-requires c = search (rules, turn_room)

pub loop-x-preserved : goal.loop-x-preserved
loop-x-preserved c = (search rules, search (rules, turn_more))

pub returns : goal.returns
returns c = search (rules, turn_all)
