use Rattle.reading.proofs.Members.{enough_many, enough_one}
use Rattle.octets.specs.Standard.{rules}
use Rattle.reading.proofs.Member.enough.Goals as goal

pub returns-then-self : goal.returns-then-self
returns-then-self c = search (rules, enough_many)

pub returns : goal.returns
returns c = search (rules, enough_one)
