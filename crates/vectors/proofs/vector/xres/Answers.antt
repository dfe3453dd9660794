use Rattle.vectors.specs.VectorBlock.{xres_of, vector_of}
use Rattle.octets.specs.Standard.{rules}
use Rattle.vectors.proofs.vector.xres.Goals as goal

pub part-requires : goal.part-requires
unfolding vector_of
part-requires c = search rules

pub returns : goal.returns
unfolding xres_of vector_of
returns c = (cc, cc)
