use Rattle.record.specs.RecordBlock.{sound_record}
use Rattle.plain_table.proofs.subscriber.sound.Goals as goal

pub returns : goal.returns
unfolding sound_record
returns c = cc
