use Rattle.vectors.proofs.Choosing.{part_lent, part_size}
use Rattle.octets.specs.Standard.{rules}
use Rattle.vectors.proofs.vector.part.Goals as goal

pub returns : goal.returns
returns c = search (rules, part_lent, part_size)
