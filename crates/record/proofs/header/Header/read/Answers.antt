use Rattle.record.specs.HeaderBlock.{header_of}
use Rattle.record.proofs.header.Header.read.Goals as goal

pub returns : goal.returns
unfolding header_of
returns c = cc
