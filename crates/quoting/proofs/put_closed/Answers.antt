use Rattle.octets.specs.Standard.{rules}
use Rattle.quoting.proofs.Writing.{wrote_closed}
use Rattle.quoting.proofs.put_closed.Goals as goal

pub returns : goal.returns
returns c = search (rules, wrote_closed)
