use Rattle.octets.specs.Standard.{rules}
use Rattle.diameter.proofs.Reading.{read_here}
use Rattle.plain_looks.proofs.Turns.{session_as, session_empty, session_cut, session_there, session_other}
use Rattle.plain_looks.proofs.session.Goals as goal

pub returns-then-is_empty : goal.returns-then-is_empty
returns-then-is_empty c = (session_as _ _ _ c.args.l.now.whole (search (rules, session_empty)), search rules)

pub returns-in-Err : goal.returns-in-Err
returns-in-Err c = (session_as _ _ _ c.args.l.now.whole (search (rules, session_cut)), search rules)

pub kind_of-requires : goal.kind_of-requires
kind_of-requires c = search (rules, read_here)

pub avp_part-requires : goal.avp_part-requires
avp_part-requires c = search (rules, read_here)

pub returns-then-kind_of-a : goal.returns-then-kind_of-a
returns-then-kind_of-a c = (session_as _ _ _ c.args.l.now.whole (session_there _ _ (search rules) _ c.avp.ensures c.in-Ok.a _ c.in-Ok.is (search rules) _ c.if-kind_of-a.true (search rules)), search rules)

pub returns-else-kind_of-a : goal.returns-else-kind_of-a
returns-else-kind_of-a c = (session_as _ _ _ c.args.l.now.whole (search (rules, session_other)), search rules)
