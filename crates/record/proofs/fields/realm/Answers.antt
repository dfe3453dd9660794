use Rattle.record.specs.Fields.{realm_of}
use Rattle.record.proofs.fields.realm.Goals as goal

pub returns : goal.returns
unfolding realm_of
returns c = (cc, c.part.ensures.1)
