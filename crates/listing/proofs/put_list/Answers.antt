use Rattle.octets.specs.Standard.{rules}
use Rattle.listing.proofs.Lists.{first_room, lines_room, wrote_list}
use Rattle.listing.proofs.put_list.Goals as goal

pub put_first-n-requires : goal.put_first-n-requires
put_first-n-requires c = search (rules, first_room)

pub put_lines-requires : goal.put_lines-requires
put_lines-requires c = search (rules, lines_room)

pub returns : goal.returns
returns c = search (rules, wrote_list)
