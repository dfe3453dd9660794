use Rattle.octets.specs.Standard.{rules}
use Rattle.moving.proofs.Turns.{moving_none, moving_fits, moving_next, moving_end}
use Rattle.moving.proofs.move_all.Goals as goal

pub loop-k-init : goal.loop-k-init
loop-k-init c = search (rules, moving_none)

pub move_at-requires : goal.move_at-requires
move_at-requires c = search (rules, moving_fits)

pub loop-k-preserved : goal.loop-k-preserved
loop-k-preserved c = search (rules, moving_next)

pub returns : goal.returns
returns c = search (rules, moving_end)
