use Rattle.decimals.proofs.Writing.{Ending}
use Rattle.decimals.proofs.put.Given as goal

abbrev pub invariant-loop-i : goal.invariant-loop-i
invariant-loop-i l = Ending l.initial.out l.out l.n l.i l.rest
