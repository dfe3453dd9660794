use Rattle.sh.proofs.Answers.{record_room, wrote_record}
use Rattle.octets.specs.Standard.{rules}
use Rattle.sh.proofs.answer.put_record.Goals as goal

pub put_user_data-requires : goal.put_user_data-requires
put_user_data-requires c = search (rules, record_room)

pub returns : goal.returns
returns c = search (rules, wrote_record)
