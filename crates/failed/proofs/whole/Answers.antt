use Rattle.failed.proofs.Faulty.{whole_past, whole_there}
use Rattle.octets.specs.Standard.{rules}
use Rattle.failed.proofs.whole.Goals as goal

pub returns-then-s-at : goal.returns-then-s-at
returns-then-s-at c = search (rules, whole_past)

pub returns : goal.returns
returns c = search (rules, whole_there)
