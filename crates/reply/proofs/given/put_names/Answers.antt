use Rattle.envelope.proofs.Rooms.{wrote_most}
use Rattle.reply.proofs.Written.{identities_room, server_room, wrote_names}
use Rattle.octets.specs.Standard.{rules}
use Rattle.reply.proofs.given.put_names.Goals as goal

pub put_identities-a-requires : goal.put_identities-a-requires
put_identities-a-requires c = search (rules, identities_room)

pub put_vendor_if-requires : goal.put_vendor_if-requires
put_vendor_if-requires c = search (rules, server_room)

pub returns : goal.returns
returns c = search (rules, wrote_most, wrote_names)
