use Rattle.envelope.proofs.Written.{wrote_header}
use Rattle.envelope.proofs.header.put_header.Goals as goal

pub returns : goal.returns
returns c = wrote_header _ _ _ _ c.requires.1 c.flags_of.ensures c.put_start.ensures c.copy_from_slice.ensures.after
