use Rattle.octets.specs.Standard.{rules}
use Rattle.moving.proofs.Ways.{checked_size, checked_few, forward_made, forward_stays}
use Rattle.moving.proofs.forward.Goals as goal

pub returns-in_err-count : goal.returns-in_err-count
returns-in_err-count c = search (rules, forward_stays)

pub move_all-requires : goal.move_all-requires
move_all-requires c = search (rules, checked_size, checked_few)

pub returns : goal.returns
returns c = forward_made _ _ _ _ c.of_edition.ensures (search rules) c.move_all.ensures
