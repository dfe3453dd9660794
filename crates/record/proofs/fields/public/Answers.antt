use Rattle.record.specs.Fields.{public_of}
use Rattle.record.proofs.fields.public.Goals as goal

pub returns : goal.returns
unfolding public_of
returns c = (cc, c.part.ensures.1)
