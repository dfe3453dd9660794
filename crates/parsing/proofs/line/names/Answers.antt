use Rattle.octets.specs.Standard.{rules}
use Rattle.parsing.proofs.Fields.{no_first, no_second, no_third, names_there, names_fitted}
use Rattle.parsing.proofs.line.names.Goals as goal

pub returns-in_err-a : goal.returns-in_err-a
returns-in_err-a c = (search (rules, no_first), search rules)

pub returns-in_err-b : goal.returns-in_err-b
returns-in_err-b c = (search (rules, no_second), search rules)

pub returns-in_err-c : goal.returns-in_err-c
returns-in_err-c c = (search (rules, no_third), search rules)

pub returns : goal.returns
returns c = (search (rules, names_there), (search rules, search (rules, names_fitted)))
