use Rattle.requests.proofs.dialect.Goals as goal

pub returns : goal.returns
returns c = cc
