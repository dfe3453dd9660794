use Rattle.vectors.specs.VectorBlock.{card_of}
use Rattle.octets.specs.Standard.{arith}
use Rattle.vectors.proofs.vector.private.Goals as goal

pub returns : goal.returns
unfolding card_of
returns c = (cc, omega (arith, c.part.ensures.1))
