use Rattle.octets.specs.Standard.{rules}
use Rattle.judging.proofs.Slots.{held_empty, held_full, after_empty, after_full}
use Rattle.judging.proofs.members.held.Goals as goal

pub returns-then-slot-eq0 : goal.returns-then-slot-eq0
returns-then-slot-eq0 c = (search (rules, held_empty), search (rules, after_empty))

pub returns : goal.returns
returns c = (search (rules, held_full), search (rules, after_full))
