use Rattle.table.proofs.Leading.{setless_read}
use Rattle.octets.specs.Standard.{rules}
use Rattle.table.proofs.set_after.Goals as goal

pub returns : goal.returns
returns c = search (rules, setless_read)
