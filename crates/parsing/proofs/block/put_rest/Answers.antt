use Rattle.octets.specs.Standard.{rules}
use Rattle.parsing.proofs.Written.{wrote_rest}
use Rattle.parsing.proofs.block.put_rest.Goals as goal

pub returns : goal.returns
returns c = search (rules, wrote_rest)
