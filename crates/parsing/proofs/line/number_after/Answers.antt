use Rattle.octets.specs.Standard.{rules}
use Rattle.parsing.proofs.Fields.{number_other, unnumbered, numbered}
use Rattle.parsing.proofs.line.number_after.Goals as goal

pub returns-in_err-rest : goal.returns-in_err-rest
returns-in_err-rest c = (search (rules, number_other), search rules)

pub returns-in_err-n : goal.returns-in_err-n
returns-in_err-n c = (search (rules, unnumbered), search rules)

pub returns : goal.returns
returns c = (search (rules, numbered), search rules)
