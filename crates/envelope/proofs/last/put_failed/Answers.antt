use Rattle.envelope.proofs.Ending.{lacking_room, wrote_lacking, placed_room, wrote_placed, wrote_no_failed}
use Rattle.octets.specs.Standard.{rules}
use Rattle.envelope.proofs.last.put_failed.Goals as goal

pub put_example-requires : goal.put_example-requires
put_example-requires c = search (rules, lacking_room)

pub returns-then-lacks-gt0 : goal.returns-then-lacks-gt0
returns-then-lacks-gt0 c = search (rules, wrote_lacking)

pub put_faulty-requires : goal.put_faulty-requires
put_faulty-requires c = search (rules, placed_room)

pub returns-then-place-gt0 : goal.returns-then-place-gt0
returns-then-place-gt0 c = search (rules, wrote_placed)

pub returns : goal.returns
returns c = search (rules, wrote_no_failed)
