use Rattle.diameter.proofs.Parts.{code_there}
use Rattle.octets.specs.Standard.{rules}
use Rattle.diameter.proofs.code_of.Goals as goal

pub returns : goal.returns
returns c = search (rules, code_there)
