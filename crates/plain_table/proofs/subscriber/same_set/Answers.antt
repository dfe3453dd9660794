use Rattle.record.specs.Sets.{same_set}
use Rattle.plain_table.proofs.subscriber.same_set.Goals as goal

pub returns : goal.returns
unfolding same_set
returns c = cc
