use Rattle.octets.specs.Standard.{rules}
use Rattle.reading.proofs.Walking.{read_less}
use Rattle.plain_reading.proofs.Turns.{list_start, list_end, list_cut, list_more, list_far}
use Rattle.plain_reading.proofs.list.Goals as goal

pub loop-at-init : goal.loop-at-init
loop-at-init c = search (rules, list_start)

pub returns-in_default : goal.returns-in_default
returns-in_default c = search (rules, list_cut)

pub loop-at-smaller : goal.loop-at-smaller
loop-at-smaller c = search (rules, read_less)

pub loop-at-preserved : goal.loop-at-preserved
loop-at-preserved c = search (rules, list_more, list_far)

pub returns : goal.returns
returns c = search (rules, list_end)
