use Rattle.failed.proofs.Faulty.{head_room, wrote_head, whole_room, wrote_whole}
use Rattle.octets.specs.Standard.{rules}
use Rattle.failed.proofs.put_faulty.Goals as goal

pub put_alone-requires : goal.put_alone-requires
put_alone-requires c = search (rules, head_room)

pub returns-then-n-eq-INVALID_AVP_LENGTH : goal.returns-then-n-eq-INVALID_AVP_LENGTH
returns-then-n-eq-INVALID_AVP_LENGTH c = search (rules, wrote_head)

pub put_failed-requires : goal.put_failed-requires
put_failed-requires c = search (rules, whole_room)

pub returns : goal.returns
returns c = search (rules, wrote_whole)
