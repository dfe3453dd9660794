use Rattle.moving.proofs.Turns.{move_fits, move_put}
use Rattle.octets.specs.Standard.{rules}
use Rattle.moving.proofs.move_block.Goals as goal

pub put_be32-requires : goal.put_be32-requires
put_be32-requires c = search (rules, move_fits)

pub returns : goal.returns
returns c = search (rules, move_put)
