use Rattle.octets.specs.Standard.{rules}
use Rattle.rows.proofs.Written.{wrote_number}
use Rattle.rows.proofs.put_number.Goals as goal

pub returns : goal.returns
returns c = search (rules, wrote_number)
