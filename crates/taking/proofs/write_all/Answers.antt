use Rattle.octets.specs.Standard.{rules}
use Rattle.taking.proofs.Turns.{cut_none, cut_begun, cut_next, cut_end}
use Rattle.taking.proofs.write_all.Goals as goal

pub loop-k-init : goal.loop-k-init
loop-k-init c = search (rules, cut_none)

pub write_block-requires : goal.write_block-requires
write_block-requires c = search (rules, cut_begun)

pub loop-k-preserved : goal.loop-k-preserved
loop-k-preserved c = search (rules, cut_next)

pub returns : goal.returns
returns c = search (rules, cut_end)
