use Rattle.reading.proofs.Asking.{passes_there}
use Rattle.octets.specs.Standard.{rules}
use Rattle.reading.proofs.features.passes.Goals as goal

pub returns : goal.returns
returns c = search (rules, passes_there)
