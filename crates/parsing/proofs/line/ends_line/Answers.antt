use Rattle.octets.specs.Standard.{rules}
use Rattle.parsing.proofs.Fields.{ends_read}
use Rattle.parsing.proofs.line.ends_line.Goals as goal

pub returns : goal.returns
returns c = search (rules, ends_read)
