use Rattle.vectors.proofs.Pieces.{rest_none}
use Rattle.octets.specs.Standard.{rules}
use Rattle.vectors.proofs.vector.rest.Goals as goal

pub returns : goal.returns
returns c = search (rules, rest_none)
