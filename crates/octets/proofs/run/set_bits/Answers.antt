use Rattle.octets.specs.Standard.{rules}
use Rattle.octets.proofs.Runs.{set_none, set_more, set_all}
use Rattle.octets.proofs.run.set_bits.Goals as goal

pub loop-i-init : goal.loop-i-init
loop-i-init c = search (rules, set_none)

pub loop-i-preserved : goal.loop-i-preserved
loop-i-preserved c = search (rules, set_more)

pub returns : goal.returns
returns c = search (rules, set_all)
