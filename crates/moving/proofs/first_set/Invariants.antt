use Rattle.octets.specs.Standard.{◌+◌, ◌-◌, ◌≡◌}
use Rattle.blocks.specs.Blocks.{first_bad}
use Rattle.moving.specs.Moves.{no_set, first_set}
use Rattle.moving.proofs.first_set.Given as goal

abbrev pub invariant-loop-k : goal.invariant-loop-k
invariant-loop-k l = first_set l.t l.count ≡ first_bad (no_set l.t) l.count (l.count + 1 - l.k) l.k
