use Rattle.octets.specs.Standard.{rules}
use Rattle.parsing.proofs.Written.{wrote_names}
use Rattle.parsing.proofs.block.put_names.Goals as goal

pub returns : goal.returns
returns c = search (rules, wrote_names)
