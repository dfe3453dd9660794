use Rattle.octets.specs.Standard.{rules}
use Rattle.judging.proofs.Passes.{verdict_bad, verdict_sound, verdict_past}
use Rattle.judging.proofs.verdict.Goals as goal

pub returns-then-next-count : goal.returns-then-next-count
returns-then-next-count c = search (rules, verdict_bad)

pub returns-then-end-list : goal.returns-then-end-list
returns-then-end-list c = search (rules, verdict_sound)

pub returns : goal.returns
returns c = search (rules, verdict_past)
