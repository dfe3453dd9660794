use Rattle.vectors.specs.VectorBlock.{confidentiality_of}
use Rattle.vectors.proofs.vector.confidentiality_key.Goals as goal

pub returns : goal.returns
unfolding confidentiality_of
returns c = (cc, c.part.ensures.1)
