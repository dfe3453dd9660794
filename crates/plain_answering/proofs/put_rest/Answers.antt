use Rattle.octets.specs.Standard.{rules}
use Rattle.answering.proofs.Ending.{given_room, end_room, wrote_rest}
use Rattle.plain_answering.proofs.put_rest.Goals as goal

pub put_given-a-requires : goal.put_given-a-requires
put_given-a-requires c = search (rules, given_room)

pub put_end-requires : goal.put_end-requires
put_end-requires c = search (rules, end_room)

pub returns : goal.returns
returns c = search (rules, wrote_rest)
