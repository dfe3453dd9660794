use Rattle.record.specs.Fields.{host_of}
use Rattle.record.proofs.fields.host.Goals as goal

pub returns : goal.returns
unfolding host_of
returns c = (cc, c.part.ensures.1)
