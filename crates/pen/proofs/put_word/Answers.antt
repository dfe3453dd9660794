use Rattle.pen.proofs.Writers.{wrote_word}
use Rattle.pen.proofs.put_word.Goals as goal

pub returns : goal.returns
returns c = wrote_word _ (rw c.to_be_bytes.ensures at c.copy_from_slice.ensures.after)
