use Rattle.octets.specs.Standard.{rules}
use Rattle.parsing.proofs.Whole.{numbers_sized, nameless_size, nameless_block, numberless_size, numberless_block, whole_size, whole_block}
use Rattle.parsing.proofs.block.read.Goals as goal

pub returns-in_err-n : goal.returns-in_err-n
returns-in_err-n c = (search (rules, nameless_size), search (rules, nameless_block))

pub returns-in_err-ns : goal.returns-in_err-ns
returns-in_err-ns c = (search (rules, numberless_size), search (rules, numberless_block))

pub put_block-requires : goal.put_block-requires
put_block-requires c = (search (rules, numbers_sized), search rules)

pub returns : goal.returns
returns c = (search (rules, whole_size), whole_block _ _ _ _ c.put_block.ensures c.in_ok-n.ensures.0 c.in_ok-ns.ensures)
