use Rattle.requests.proofs.spoken.Goals as goal

pub returns : goal.returns
returns c = cc
