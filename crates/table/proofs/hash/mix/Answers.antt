use Rattle.table.specs.Hash.{mixed}
use Rattle.octets.specs.Standard.{rules}
use Rattle.table.proofs.hash.mix.Goals as goal

pub returns : goal.returns
unfolding mixed
returns c = search rules
