use Rattle.octets.specs.Standard.{rules}
use Rattle.table.proofs.Lent.{block_back}
use Rattle.moving.specs.Moves.{moved}
use Rattle.moving.proofs.move_at.Goals as goal

pub returns : goal.returns
returns c =
    block_back (moved c.args.edition c.args.issue) _ _ c.split_at_mut-rest.ensures.front c.split_at_mut-rest.ensures.back (search rules) c.move_block.ensures
