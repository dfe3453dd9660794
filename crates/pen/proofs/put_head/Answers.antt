use Rattle.pen.proofs.Writers.{wrote_head}
use Rattle.pen.proofs.put_head.Goals as goal

pub returns : goal.returns
returns c = wrote_head _ _ _ c.requires c.put_word.ensures c.to_be_bytes.ensures c.copy_from_slice.ensures.after
