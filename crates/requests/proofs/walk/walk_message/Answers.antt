use Rattle.octets.specs.Standard.{rules}
use Rattle.diameter.proofs.Reading.{read_here}
use Rattle.reading.proofs.Walking.{read_less}
use Rattle.requests.proofs.Turns.{nothing_seen, turn_end, turn_cut, turn_bad, turn_taken, turn_skipped}
use Rattle.requests.proofs.walk.walk_message.Goals as goal

pub loop-at-init : goal.loop-at-init
loop-at-init c = search (rules, nothing_seen)

pub returns-in_default : goal.returns-in_default
returns-in_default c = search (rules, turn_cut)

pub kind_of-k-requires : goal.kind_of-k-requires
kind_of-k-requires c = search (rules, read_here)

pub rule_at-requires : goal.rule_at-requires
rule_at-requires c = search (rules, read_here)

pub returns-in-Fault : goal.returns-in-Fault
returns-in-Fault c = search (rules, turn_bad)

pub loop-at-smaller-in-Taken : goal.loop-at-smaller-in-Taken
loop-at-smaller-in-Taken c = search (rules, read_less)

pub loop-at-preserved-in-Taken : goal.loop-at-preserved-in-Taken
loop-at-preserved-in-Taken c = search (rules, turn_taken)

pub loop-at-smaller : goal.loop-at-smaller
loop-at-smaller c = search (rules, read_less)

pub loop-at-preserved : goal.loop-at-preserved
loop-at-preserved c = search (rules, turn_skipped)

pub returns : goal.returns
returns c = search (rules, turn_end)
