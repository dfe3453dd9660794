use Rattle.counting.specs.Words.{long_bytes}
use Rattle.counting.proofs.Longs.{wrote_long}
use Rattle.counting.proofs.words.put_long.Goals as goal

pub returns : goal.returns
unfolding long_bytes
returns c = wrote_long _ (rw c.to_be_bytes.ensures at c.copy_from_slice.ensures.after)
