use Rattle.rewrite.proofs.Writes.{settle_block}
use Rattle.octets.specs.Standard.{rules}
use Rattle.rewrite.proofs.settle_block.Goals as goal

pub returns : goal.returns
returns c = (search (rules, settle_block), search rules, search rules)
