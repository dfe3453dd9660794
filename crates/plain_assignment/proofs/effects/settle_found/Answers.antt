use Rattle.lookup.proofs.Among.{among_from, among_to}
use Rattle.assignment.proofs.NameTurns.{change_fits, found_settled, found_none}
use Rattle.octets.specs.Standard.{rules}
use Rattle.plain_assignment.proofs.effects.settle_found.Goals as goal

pub change_set-requires : goal.change_set-requires
change_set-requires c = (search rules, search (rules, among_from), search (rules, among_to), search (rules, change_fits))

pub returns-in-Some : goal.returns-in-Some
returns-in-Some c = search (rules, found_settled)

pub returns-in_default : goal.returns-in_default
returns-in_default c = search (rules, found_none)
