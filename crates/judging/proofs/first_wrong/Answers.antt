use Rattle.octets.specs.Standard.{rules}
use Rattle.judging.proofs.Passes.{is_titled_lem, untitled}
use Rattle.judging.proofs.first_wrong.Goals as goal

pub records-requires : goal.records-requires
records-requires c = search (rules, is_titled_lem)

pub returns-else-titled : goal.returns-else-titled
returns-else-titled c = search (rules, untitled)
