use Rattle.octets.specs.Standard.{rules}
use Rattle.vectors.proofs.Marks.{spend_all, spend_fits, spend_next, spend_end}
use Rattle.vectors.proofs.mark.spend.Goals as goal

pub loop-k-init : goal.loop-k-init
loop-k-init c = search (rules, spend_all)

pub mark_at-requires : goal.mark_at-requires
mark_at-requires c = search (rules, spend_fits)

pub loop-k-preserved : goal.loop-k-preserved
loop-k-preserved c = search (rules, spend_next)

pub returns : goal.returns
returns c = search (rules, spend_end)
