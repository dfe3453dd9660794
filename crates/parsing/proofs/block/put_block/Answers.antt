use Rattle.octets.specs.Standard.{rules}
use Rattle.parsing.proofs.Written.{wrote_block}
use Rattle.parsing.proofs.block.put_block.Goals as goal

pub returns : goal.returns
returns c = search (rules, wrote_block)
