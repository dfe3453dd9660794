use Rattle.envelope.proofs.Rooms.{wrote_most}
use Rattle.reply.proofs.Written.{names_room, contents_room, wrote_given}
use Rattle.octets.specs.Standard.{rules}
use Rattle.reply.proofs.given.put_given.Goals as goal

pub put_names-a-requires : goal.put_names-a-requires
put_names-a-requires c = search (rules, names_room)

pub put_contents-requires : goal.put_contents-requires
put_contents-requires c = search (rules, contents_room)

pub returns : goal.returns
returns c = search (rules, wrote_most, wrote_given)
