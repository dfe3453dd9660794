use Rattle.record.specs.Fields.{private_of}
use Rattle.record.proofs.fields.private.Goals as goal

pub returns : goal.returns
unfolding private_of
returns c = (cc, c.part.ensures.1)
