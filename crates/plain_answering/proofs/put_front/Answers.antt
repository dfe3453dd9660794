use Rattle.octets.specs.Standard.{rules}
use Rattle.envelope.proofs.Written.{session_room, wrote_session}
use Rattle.plain_answering.proofs.put_front.Goals as goal

pub put_start-requires : goal.put_start-requires
put_start-requires c = search (rules, session_room)

pub returns : goal.returns
returns c = search (rules, wrote_session)
