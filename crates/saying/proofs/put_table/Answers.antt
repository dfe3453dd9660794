use Rattle.octets.specs.Standard.{rules}
use Rattle.saying.proofs.Writing.{wrote_table}
use Rattle.saying.proofs.put_table.Goals as goal

pub returns : goal.returns
returns c = search (rules, wrote_table)
