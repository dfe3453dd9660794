use Rattle.octets.specs.Standard.{rules}
use Rattle.parsing.proofs.Fields.{name_other, unnamed, named}
use Rattle.parsing.proofs.line.name_after.Goals as goal

pub returns-in_err-rest : goal.returns-in_err-rest
returns-in_err-rest c = (search (rules, name_other), search rules)

pub returns-in_err-n : goal.returns-in_err-n
returns-in_err-n c = (search (rules, unnamed), search rules)

pub returns : goal.returns
returns c = (search (rules, named), search rules)
