use Rattle.diameter.proofs.Parts.{value_there, value_none}
use Rattle.octets.specs.Standard.{rules}
use Rattle.diameter.proofs.value_of.Goals as goal

pub returns-then-a : goal.returns-then-a
returns-then-a c = search (rules, value_there)

pub returns : goal.returns
returns c = search (rules, value_none)
