use Rattle.record.specs.Sets.{agreeing}
use Rattle.plain_table.proofs.subscriber.agree.Goals as goal

pub returns : goal.returns
unfolding agreeing
returns c = cc
