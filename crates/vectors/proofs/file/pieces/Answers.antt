use Rattle.vectors.proofs.Pieces.{pieces_are}
use Rattle.octets.specs.Standard.{rules}
use Rattle.vectors.proofs.file.pieces.Goals as goal

pub returns : goal.returns
returns c = search (rules, pieces_are)
