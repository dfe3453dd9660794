use Rattle.envelope.proofs.Rooms.{wrote_most}
use Rattle.reply.proofs.Written.{capable_room, data_room, wrote_data}
use Rattle.octets.specs.Standard.{rules}
use Rattle.reply.proofs.given.put_data.Goals as goal

pub put_capabilities-a-requires : goal.put_capabilities-a-requires
put_capabilities-a-requires c = search (rules, capable_room)

pub put_vendor_if-requires : goal.put_vendor_if-requires
put_vendor_if-requires c = search (rules, data_room)

pub returns : goal.returns
returns c = search (rules, wrote_most, wrote_data)
