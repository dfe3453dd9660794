use Rattle.envelope.proofs.Rooms.{wrote_most}
use Rattle.reply.proofs.Written.{user_room, public_room, wrote_identities}
use Rattle.octets.specs.Standard.{rules}
use Rattle.reply.proofs.given.put_identities.Goals as goal

pub put_avp_if-a-requires : goal.put_avp_if-a-requires
put_avp_if-a-requires c = search (rules, user_room)

pub put_vendor_if-requires : goal.put_vendor_if-requires
put_vendor_if-requires c = search (rules, public_room)

pub returns : goal.returns
returns c = search (rules, wrote_most, wrote_identities)
