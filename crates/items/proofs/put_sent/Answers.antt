use Rattle.items.proofs.Items.{sent_room, sent_within, wrote_sent, wrote_nothing}
use Rattle.octets.specs.Standard.{rules}
use Rattle.items.proofs.put_sent.Goals as goal

pub put_numbered-requires : goal.put_numbered-requires
put_numbered-requires c = search (rules, sent_room)

pub returns-then-sent-gt0 : goal.returns-then-sent-gt0
returns-then-sent-gt0 c = (search (rules, sent_within), search (rules, wrote_sent))

pub returns : goal.returns
returns c = search (rules, wrote_nothing)
