use Rattle.envelope.proofs.Rooms.{wrote_most}
use Rattle.reply.proofs.Written.{origin_first, called_room, wrote_server}
use Rattle.octets.specs.Standard.{rules}
use Rattle.reply.proofs.front.put_server.Goals as goal

pub put_origin-a-requires : goal.put_origin-a-requires
put_origin-a-requires c = search (rules, origin_first)

pub put_list-requires : goal.put_list-requires
put_list-requires c = search (rules, called_room)

pub returns : goal.returns
returns c = search (rules, wrote_most, wrote_server)
