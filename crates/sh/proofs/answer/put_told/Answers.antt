use Rattle.sh.proofs.Answers.{block_room, told_room, wrote_none, wrote_told, wrote_untold}
use Rattle.octets.specs.Standard.{rules}
use Rattle.sh.proofs.answer.put_told.Goals as goal

pub block-requires : goal.block-requires
block-requires c = search (rules, block_room)

pub put_record-requires : goal.put_record-requires
put_record-requires c = search (rules, told_room)

pub returns-then-k-eq0 : goal.returns-then-k-eq0
returns-then-k-eq0 c = search (rules, wrote_none)

pub returns-else-k-eq0 : goal.returns-else-k-eq0
returns-else-k-eq0 c = search (rules, wrote_told)

pub returns-in-Err : goal.returns-in-Err
returns-in-Err c = search (rules, wrote_untold)
