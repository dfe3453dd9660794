use Rattle.vectors.specs.VectorBlock.{vector_of}
use Rattle.vectors.proofs.vector.Vector.read.Goals as goal

pub returns : goal.returns
unfolding vector_of
returns c = cc
