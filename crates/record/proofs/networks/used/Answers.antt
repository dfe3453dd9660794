use Rattle.record.specs.Networks.{used_place}
use Rattle.record.proofs.networks.used.Goals as goal

pub returns : goal.returns
unfolding used_place
returns c = cc
