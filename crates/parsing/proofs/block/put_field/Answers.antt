use Rattle.octets.specs.Standard.{rules}
use Rattle.parsing.proofs.Written.{wrote_field}
use Rattle.parsing.proofs.block.put_field.Goals as goal

pub returns : goal.returns
returns c = search (rules, wrote_field)
