use Rattle.reading.proofs.Members.{group_often, group_good, group_bad}
use Rattle.octets.specs.Standard.{rules}
use Rattle.reading.proofs.group.group_fault.Goals as goal

pub returns-then-not-gathers : goal.returns-then-not-gathers
returns-then-not-gathers c = search (rules, group_bad)

pub returns-then-too_often : goal.returns-then-too_often
returns-then-too_often c = search (rules, group_often)

pub returns : goal.returns
returns c = search (rules, group_good)
