use Rattle.octets.specs.Standard.{rules}
use Rattle.plain_reading.proofs.Turns.{pass_start, pass_here, pass_more, pass_none}
use Rattle.plain_reading.proofs.listed.Places.pass.Goals as goal

pub loop-i-init : goal.loop-i-init
loop-i-init c = search (rules, pass_start)

pub returns-then-breaks : goal.returns-then-breaks
returns-then-breaks c = search (rules, pass_here)

pub loop-i-preserved : goal.loop-i-preserved
loop-i-preserved c = search (rules, pass_more)

pub returns : goal.returns
returns c = search (rules, pass_none)
