use Rattle.octets.specs.Standard.{rules}
use Rattle.listing.proofs.Lists.{lines_none, line_room, line_more, lines_all}
use Rattle.listing.proofs.put_lines.Goals as goal

pub loop-k-init : goal.loop-k-init
loop-k-init c = search (rules, lines_none)

pub put_at-n-requires : goal.put_at-n-requires
put_at-n-requires c = search (rules, line_room)

pub loop-k-preserved : goal.loop-k-preserved
loop-k-preserved c = (search rules, search rules, search rules, search (rules, line_more))

pub returns : goal.returns
returns c = search (rules, lines_all)
