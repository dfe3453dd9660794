use Rattle.reply.proofs.Written.{list_room, list_most, wrote_list, wrote_no_list}
use Rattle.octets.specs.Standard.{rules}
use Rattle.reply.proofs.front.put_list.Goals as goal

pub put_features-requires : goal.put_features-requires
put_features-requires c = search (rules, list_room)

pub returns-then-listed : goal.returns-then-listed
returns-then-listed c = search (rules, list_most, wrote_list)

pub returns : goal.returns
returns c = search (rules, wrote_no_list)
