use Rattle.refusals.proofs.Passing.{length_all}
use Rattle.octets.specs.Standard.{rules}
use Rattle.refusals.proofs.wrong_length.Goals as goal

pub returns : goal.returns
returns c = search (rules, length_all)
