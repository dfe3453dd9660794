use Rattle.record.specs.Fields.{server_of}
use Rattle.record.proofs.fields.server.Goals as goal

pub returns : goal.returns
unfolding server_of
returns c = (cc, c.part.ensures.1)
