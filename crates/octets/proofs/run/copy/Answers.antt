use Rattle.octets.specs.Standard.{rules}
use Rattle.octets.proofs.Writes.{over_none_taken, over_copied, over_all_taken}
use Rattle.octets.proofs.run.copy.Goals as goal

pub loop-i-init : goal.loop-i-init
loop-i-init c = search (rules, over_none_taken)

pub loop-i-preserved : goal.loop-i-preserved
loop-i-preserved c = (search rules, search rules, search rules, search (rules, over_copied))

pub returns : goal.returns
returns c = search (rules, over_all_taken)
