use Rattle.vectors.proofs.Choosing.{Left}
use Rattle.octets.specs.Standard.{◌≤◌}
use Rattle.plain_vectors.proofs.first_unused.Given as goal

abbrev pub invariant-loop-k : goal.invariant-loop-k
invariant-loop-k l = (l.k-end ≤ 4096) × Left l.v l.name l.most l.sent l.k
