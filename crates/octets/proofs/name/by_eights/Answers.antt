use Rattle.octets.specs.Standard.{rules}
use Rattle.octets.proofs.Eights.{eights_more, eights_order, eights_other}
use Rattle.octets.proofs.name.by_eights.Goals as goal

pub returns-then-a-b : goal.returns-then-a-b
returns-then-a-b c = (search (rules, eights_order), search (rules, eights_other))

pub loop-k-preserved : goal.loop-k-preserved
loop-k-preserved c = (search rules, search (rules, eights_more))
