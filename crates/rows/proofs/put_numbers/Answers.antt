use Rattle.octets.specs.Standard.{rules}
use Rattle.octets.proofs.Writes.{going_none}
use Rattle.rows.proofs.Written.{turn_room, turn_more, end_room, end_within, turn_all}
use Rattle.rows.proofs.put_numbers.Goals as goal

pub loop-x-init : goal.loop-x-init
loop-x-init c = search (rules, going_none)

pub put_number-n-requires : goal.put_number-n-requires
put_number-n-requires c = search (rules, turn_room)

pub loop-x-preserved : goal.loop-x-preserved
loop-x-preserved c = (search rules, search (rules, turn_more))

pub put_end-requires : goal.put_end-requires
put_end-requires c = search (rules, end_room)

pub returns : goal.returns
returns c = (search (rules, end_within), search (rules, turn_all))
