use Rattle.octets.specs.Standard.{refl, rules}
use Rattle.moving.proofs.Ways.{checked_size, checked_few, back_made, back_stays, back_none}
use Rattle.moving.proofs.back.Goals as goal

pub returns-in_err-count : goal.returns-in_err-count
returns-in_err-count c = search (rules, back_none)

pub first_set-requires : goal.first_set-requires
first_set-requires c = search (rules, checked_size, checked_few)

pub returns-in-Err : goal.returns-in-Err
returns-in-Err c = back_stays _ _ _ _ c.of_edition.ensures c.in_ok-count.was c.first_set.ensures c.in-Err.is refl

pub move_all-requires : goal.move_all-requires
move_all-requires c = search (rules, checked_size, checked_few)

pub returns : goal.returns
returns c = back_made _ _ _ _ c.of_edition.ensures c.in_ok-count.was c.first_set.ensures c.in_default.is c.move_all.ensures
