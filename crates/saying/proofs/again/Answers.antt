use Rattle.octets.specs.Standard.{rules}
use Rattle.saying.proofs.Reading.{again_place, again_within, again_past, again_end, again_said}
use Rattle.saying.proofs.again.Goals as goal

pub loop-n-init : goal.loop-n-init
loop-n-init c = (search (rules, again_place), search (rules, again_within))

pub loop-n-preserved : goal.loop-n-preserved
loop-n-preserved c = (search (rules, again_past), search rules)

pub read-requires : goal.read-requires
read-requires c = (search rules, search (rules, again_end), search rules)

pub returns : goal.returns
returns c = search (rules, again_said)
