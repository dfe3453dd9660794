use Rattle.octets.specs.Standard.{rules}
use Rattle.answering.proofs.Whole.{top_room, rest_room, wrote_body}
use Rattle.plain_answering.proofs.put_body.Goals as goal

pub put_top-a-requires : goal.put_top-a-requires
put_top-a-requires c = search (rules, top_room)

pub put_rest-requires : goal.put_rest-requires
put_rest-requires c = search (rules, rest_room)

pub returns : goal.returns
returns c = search (rules, wrote_body)
