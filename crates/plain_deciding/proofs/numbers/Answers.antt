use Rattle.plain_deciding.proofs.Saying.{numbers_are}
use Rattle.octets.specs.Standard.{rules}
use Rattle.plain_deciding.proofs.numbers.Goals as goal

pub returns : goal.returns
returns c = search (rules, numbers_are)
