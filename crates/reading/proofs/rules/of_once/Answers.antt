use Rattle.reading.proofs.Judging.{once_first}
use Rattle.octets.specs.Standard.{rules}
use Rattle.reading.proofs.rules.of_once.Goals as goal

pub returns : goal.returns
returns c = search (rules, once_first)
