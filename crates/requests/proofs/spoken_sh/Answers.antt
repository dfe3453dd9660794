use Rattle.requests.proofs.spoken_sh.Goals as goal

pub returns : goal.returns
returns c = cc
