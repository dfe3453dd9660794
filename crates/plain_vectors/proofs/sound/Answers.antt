use Rattle.vectors.specs.VectorBlock.{sound_vector}
use Rattle.plain_vectors.proofs.sound.Goals as goal

pub returns : goal.returns
unfolding sound_vector
returns c = cc
