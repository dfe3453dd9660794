use Rattle.vectors.specs.VectorBlock.{integrity_of}
use Rattle.vectors.proofs.vector.integrity_key.Goals as goal

pub returns : goal.returns
unfolding integrity_of
returns c = (cc, c.part.ensures.1)
