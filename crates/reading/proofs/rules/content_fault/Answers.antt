use Rattle.reading.proofs.Judging.{content_plain, content_group}
use Rattle.octets.specs.Standard.{rules}
use Rattle.reading.proofs.rules.content_fault.Goals as goal

pub returns-in-Members : goal.returns-in-Members
returns-in-Members c = search (rules, content_group)

pub returns-in_default : goal.returns-in_default
returns-in_default c = content_plain _ _ _ _ c.in_default.not-Members c.plain_fault.ensures
