use Rattle.record.proofs.header.Header.is_header.Goals as goal

pub returns : goal.returns
returns c = cc
