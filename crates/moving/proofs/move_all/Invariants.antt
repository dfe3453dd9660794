use Rattle.moving.proofs.Turns.{Moving}
use Rattle.moving.proofs.move_all.Given as goal

abbrev pub invariant-loop-k : goal.invariant-loop-k
invariant-loop-k l = Moving l.initial.t l.t l.count l.k l.edition l.issue
