use Rattle.failed.proofs.Faulty.{copy_room, store_room, wrote_alone, wrote_none}
use Rattle.failed.proofs.put_alone.Goals as goal

pub put_failed-n-requires : goal.put_failed-n-requires
put_failed-n-requires c = copy_room _ c.in-Some.ensures.0 c.requires

pub put_be24-requires : goal.put_be24-requires
put_be24-requires c = store_room _ _ c.in-Some.ensures.0 c.in-Some.ensures.1 c.put_failed-n.ensures.1 c.requires

pub returns-in-Some : goal.returns-in-Some
returns-in-Some c =
    wrote_alone _ _ c.in-Some.ensures.0 c.in-Some.ensures.1 c.put_failed-n.ensures.1 c.in-Some.ensures.2 c.put_be24.ensures

pub returns-in-None : goal.returns-in-None
returns-in-None c = wrote_none _ c.in-None.ensures c.put_failed.ensures.1
