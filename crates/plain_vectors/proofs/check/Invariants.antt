use Rattle.octets.specs.Standard.{◌≡◌}
use Rattle.vectors.specs.VectorFile.{pieces_of}
use Rattle.plain_vectors.proofs.Pieces.{Passed}
use Rattle.plain_vectors.proofs.check.Given as goal

abbrev pub invariant-loop-k : goal.invariant-loop-k
invariant-loop-k l = (l.pieces ≡ pieces_of l.v) × Passed l.v l.k
