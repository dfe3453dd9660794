use Rattle.octets.proofs.Writes.{then}
use Rattle.envelope.proofs.Rooms.{room_left, room_right, wrote_most}
use Rattle.octets.specs.Standard.{rules}
use Rattle.reply.proofs.given.put_contents.Goals as goal

pub put_sent-a-requires : goal.put_sent-a-requires
put_sent-a-requires c = search (rules, room_left)

pub put_data-requires : goal.put_data-requires
put_data-requires c = search (rules, room_right)

pub returns : goal.returns
returns c = search (rules, wrote_most, then)
