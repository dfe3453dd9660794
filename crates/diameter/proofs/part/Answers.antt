use Rattle.octets.specs.Standard.{arith, length-take, length-drop}
use Rattle.diameter.proofs.Parts.{part_is}
use Rattle.diameter.proofs.part.Goals as goal

pub returns : goal.returns
returns c = (part_is _ _ _ c.requires.0, simp (length-take, length-drop) (omega arith))
