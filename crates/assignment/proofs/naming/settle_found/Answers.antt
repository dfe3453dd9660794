use Rattle.lookup.proofs.Among.{among_from, among_to}
use Rattle.assignment.proofs.NameTurns.{change_fits, found_settled, found_none, none_altered, few_altered}
use Rattle.octets.specs.Standard.{rules}
use Rattle.assignment.proofs.naming.settle_found.Goals as goal

pub change_set-requires : goal.change_set-requires
change_set-requires c = (search rules, search (rules, among_from), search (rules, among_to), search (rules, change_fits))

pub returns-in-Some : goal.returns-in-Some
returns-in-Some c = (search (rules, found_settled), search rules, search (rules, few_altered))

pub returns-in-None : goal.returns-in-None
returns-in-None c = (search (rules, found_none), search (rules, none_altered), search rules)
