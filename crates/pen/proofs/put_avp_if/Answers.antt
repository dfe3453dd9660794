use Rattle.pen.proofs.Sizes.{some, none, avp_room, avp_most}
use Rattle.pen.proofs.Writers.{wrote_there, wrote_none}
use Rattle.octets.specs.Standard.{rules}
use Rattle.pen.proofs.put_avp_if.Goals as goal

pub returns-then-is_empty : goal.returns-then-is_empty
returns-then-is_empty c = search (rules, wrote_none, none)

pub put_avp-requires : goal.put_avp-requires
put_avp-requires c = avp_room _ _ (some _ c.is_empty.ensures c.if-is_empty.false) c.requires

pub returns : goal.returns
returns c =
    let there = some _ c.is_empty.ensures c.if-is_empty.false in
    (search (rules, avp_most), search rules, search (rules, wrote_there))
