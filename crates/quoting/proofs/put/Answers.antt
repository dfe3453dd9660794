use Rattle.octets.specs.Standard.{rules}
use Rattle.quoting.proofs.Writing.{wrote_size, wrote_quoted}
use Rattle.quoting.proofs.put.Goals as goal

pub returns : goal.returns
returns c = (search (rules, wrote_size), search (rules, wrote_quoted))
