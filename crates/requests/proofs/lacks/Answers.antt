use Rattle.requests.proofs.lacks.Goals as goal

pub returns : goal.returns
returns c = cc
