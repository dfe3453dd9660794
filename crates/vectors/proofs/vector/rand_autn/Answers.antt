use Rattle.vectors.specs.VectorBlock.{rand_autn_of}
use Rattle.vectors.proofs.vector.rand_autn.Goals as goal

pub returns : goal.returns
unfolding rand_autn_of
returns c = (cc, c.part.ensures.1)
