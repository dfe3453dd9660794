use Rattle.pen.proofs.Writers.{wrote_number}
use Rattle.octets.specs.Standard.{rules}
use Rattle.pen.proofs.put_number.Goals as goal

pub returns : goal.returns
returns c = search (rules, wrote_number)
