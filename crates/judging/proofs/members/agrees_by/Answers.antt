use Rattle.octets.specs.Standard.{rules}
use Rattle.judging.proofs.Slots.{apart_agrees, apart_kept, held_agrees, held_kept, slots_size}
use Rattle.judging.proofs.members.agrees_by.Goals as goal

pub returns-then-set-eq0 : goal.returns-then-set-eq0
returns-then-set-eq0 c = (search (rules, apart_agrees), search (rules, apart_kept))

pub held-requires : goal.held-requires
held-requires c = (search (rules, slots_size), search rules, search rules)

pub returns : goal.returns
returns c = (search (rules, held_agrees), search (rules, held_kept))
