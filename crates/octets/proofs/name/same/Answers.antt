use Rattle.octets.proofs.Names.{same_within, same_lengths}
use Rattle.octets.specs.Standard.{rules}
use Rattle.octets.proofs.name.same.Goals as goal

pub returns-then-s-t : goal.returns-then-s-t
returns-then-s-t c = search (rules, same_within)

pub returns-else-s-t : goal.returns-else-s-t
returns-else-s-t c = search (rules, same_lengths)
