use Rattle.octets.specs.Standard.{rules}
use Rattle.table.proofs.Lent.{block_back, block_lent}
use Rattle.rewrite.specs.Fitting.{change_of}
use Rattle.rewrite.proofs.Writes.{change_differs}
use Rattle.rewrite.proofs.change_at.Goals as goal

pub returns : goal.returns
returns c =
    let front = c.split_at_mut-rest.ensures.front in
    let back = c.split_at_mut-rest.ensures.back in
    let put = block_back (change_of c.args.c c.args.name.now) _ _ front back (search rules) c.change_block.ensures.0 in
    (put, change_differs _ _ _ _ c.requires.0 (block_lent _ _ back (search rules)) c.change_block.ensures.0 c.change_block.ensures.1 put, search rules)
