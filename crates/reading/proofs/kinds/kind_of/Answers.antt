use Rattle.reading.proofs.Known.{kind_there}
use Rattle.octets.specs.Standard.{rules}
use Rattle.reading.proofs.kinds.kind_of.Goals as goal

pub returns : goal.returns
returns c = search (rules, kind_there)
