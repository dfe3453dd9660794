use Rattle.octets.specs.Standard.{rules}
use Rattle.envelope.proofs.Rooms.{wrote_most}
use Rattle.reply.proofs.Written.{front_room, origin_room, wrote_top}
use Rattle.answering.proofs.Whole.{listed_is}
use Rattle.plain_answering.proofs.put_top.Goals as goal

pub put_front-a-requires : goal.put_front-a-requires
put_front-a-requires c = search (rules, front_room)

pub put_server-requires : goal.put_server-requires
put_server-requires c = search (rules, origin_room, listed_is)

pub returns : goal.returns
returns c = search (rules, wrote_most, wrote_top)
