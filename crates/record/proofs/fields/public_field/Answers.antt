use Rattle.octets.specs.Standard.{arith, length-take, length-drop}
use Rattle.record.specs.Fields.{public_field}
use Rattle.record.proofs.fields.public_field.Goals as goal

pub returns : goal.returns
unfolding public_field
returns c = (cc, simp (length-take, length-drop) (omega arith))
