use Rattle.octets.specs.Standard.{rules, arith}
use Rattle.pen.proofs.Groups.{wrote_no_capabilities, capabilities_room}
use Rattle.pen.proofs.group.put_capabilities.Goals as goal

pub returns-then-mandatory-optional-eq0 : goal.returns-then-mandatory-optional-eq0
returns-then-mandatory-optional-eq0 c = search (rules, wrote_no_capabilities)

pub put_members-requires : goal.put_members-requires
put_members-requires c = search (rules, capabilities_room)

pub returns : goal.returns
returns c =
    let room = capabilities_room _ _ c.if-mandatory-optional-eq0.false c.requires in
    (omega (arith, room, c.put_members.ensures.0), omega arith, c.put_members.ensures.1)
