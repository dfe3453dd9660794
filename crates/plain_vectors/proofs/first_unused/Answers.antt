use Rattle.vectors.proofs.Choosing.{left_all, left_none}
use Rattle.vectors.proofs.Sound.{few_all, block_fits}
use Rattle.plain_vectors.proofs.Turns.{left_next}
use Rattle.octets.specs.Standard.{rules}
use Rattle.plain_vectors.proofs.first_unused.Goals as goal

pub loop-k-init : goal.loop-k-init
loop-k-init c = search (rules, left_all, few_all)

pub with_next-sent-requires : goal.with_next-sent-requires
with_next-sent-requires c = search (rules, block_fits)

pub loop-k-preserved : goal.loop-k-preserved
loop-k-preserved c = search (rules, left_next)

pub returns : goal.returns
returns c = search (rules, left_none)
