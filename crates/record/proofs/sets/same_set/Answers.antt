use Rattle.record.proofs.OneSet.{set_named, set_apart}
use Rattle.octets.specs.Standard.{rules}
use Rattle.record.proofs.sets.same_set.Goals as goal

pub returns-then-number-set : goal.returns-then-number-set
returns-then-number-set c = search (rules, set_named)

pub returns-else-number-set : goal.returns-else-number-set
returns-else-number-set c = search (rules, set_apart)
