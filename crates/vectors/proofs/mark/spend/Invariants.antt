use Rattle.vectors.specs.Chosen.{sent_of}
use Rattle.vectors.proofs.Marks.{Spending}
use Rattle.vectors.proofs.mark.spend.Given as goal

abbrev pub invariant-loop-k : goal.invariant-loop-k
invariant-loop-k l = Spending l.initial.v l.v (sent_of l.fn.sent) l.k-index
