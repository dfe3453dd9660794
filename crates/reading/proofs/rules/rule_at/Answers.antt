use Rattle.reading.proofs.Judging.{rule_there}
use Rattle.octets.specs.Standard.{rules}
use Rattle.reading.proofs.rules.rule_at.Goals as goal

pub returns : goal.returns
returns c = let e = c.rule_by.ensures _ c.content_fault-fault.ensures in search (rules, rule_there)
