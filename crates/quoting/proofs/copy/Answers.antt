use Rattle.octets.specs.Standard.{rules, length-take-le}
use Rattle.quoting.proofs.Writing.{taken_none, taken_more, taken_all}
use Rattle.quoting.proofs.copy.Goals as goal

pub loop-y-init : goal.loop-y-init
loop-y-init c = (length-take-le _ _ c.requires.0, search rules, search (rules, taken_none))

pub loop-y-preserved : goal.loop-y-preserved
loop-y-preserved c = (search rules, search rules, search (rules, taken_more))

pub returns : goal.returns
returns c = taken_all _ _ _ _ _ c.requires.0 c.loop-y.invariant.0 (search rules) (search rules) c.loop-y.invariant.2
