use Rattle.plain_calling.proofs.Calls.{list_read}
use Rattle.octets.specs.Standard.{rules}
use Rattle.plain_calling.proofs.read.Goals as goal

pub returns : goal.returns
returns c = search (rules, list_read)
