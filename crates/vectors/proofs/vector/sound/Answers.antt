use Rattle.vectors.proofs.Pieces.{limits_xres, limits_private, vector_within, vector_past}
use Rattle.octets.specs.Standard.{rules}
use Rattle.vectors.proofs.vector.sound.Goals as goal

pub rest-requires : goal.rest-requires
rest-requires c = search (rules, limits_xres, limits_private)

pub returns-then-limits : goal.returns-then-limits
returns-then-limits c = search (rules, vector_within)

pub returns-else-limits : goal.returns-else-limits
returns-else-limits c = search (rules, vector_past)
