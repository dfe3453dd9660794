use Rattle.record.specs.RecordBlock.{record_of}
use Rattle.record.proofs.subscriber.Record.read.Goals as goal

pub returns : goal.returns
unfolding record_of
returns c = cc
