use Rattle.reading.proofs.Members.{gathers_not, all_enough, gathers_end}
use Rattle.octets.specs.Standard.{rules}
use Rattle.octets.proofs.All.{all_none}
use Rattle.reading.proofs.group.gathers.Goals as goal

pub loop-k-init : goal.loop-k-init
loop-k-init c = search (rules, all_none)

pub returns-then-not-enough : goal.returns-then-not-enough
returns-then-not-enough c = search (rules, gathers_not)

pub loop-k-preserved : goal.loop-k-preserved
loop-k-preserved c = search (rules, all_enough)

pub returns : goal.returns
returns c = search (rules, gathers_end)
