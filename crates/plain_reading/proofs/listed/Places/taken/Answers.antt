use Rattle.octets.specs.Standard.{rules}
use Rattle.plain_reading.proofs.Turns.{fill_none, fill_more, fill_all}
use Rattle.plain_reading.proofs.listed.Places.taken.Goals as goal

pub loop-k-init : goal.loop-k-init
loop-k-init c = search (rules, fill_none)

pub loop-k-preserved : goal.loop-k-preserved
loop-k-preserved c = search (rules, fill_more)

pub returns : goal.returns
returns c = search (rules, fill_all)
