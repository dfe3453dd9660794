use Rattle.octets.specs.Standard.{rules}
use Rattle.octets.proofs.Writes.{going_none}
use Rattle.markup.proofs.Written.{escape_room, escaped_more, escaped_within, escaped_end}
use Rattle.markup.proofs.put_escaped.Goals as goal

pub loop-x-init : goal.loop-x-init
loop-x-init c = search (rules, going_none)

pub put_escape-at-requires : goal.put_escape-at-requires
put_escape-at-requires c = search (rules, escape_room)

pub loop-x-preserved : goal.loop-x-preserved
loop-x-preserved c = (search (rules, escaped_within), search (rules, escaped_more))

pub returns : goal.returns
returns c = (search rules, search (rules, escaped_end))
