use Rattle.record.specs.Sets.{agreeing}
use Rattle.record.proofs.sets.agree.Goals as goal

pub returns : goal.returns
unfolding agreeing
returns c = cc
