use Rattle.envelope.proofs.Written.{wrote_start}
use Rattle.envelope.proofs.header.put_start.Goals as goal

pub returns : goal.returns
returns c = wrote_start _ _ c.requires c.to_be_bytes.ensures c.copy_from_slice.ensures.after
