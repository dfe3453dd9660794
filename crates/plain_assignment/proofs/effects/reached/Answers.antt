use Rattle.plain_assignment.proofs.effects.reached.Goals as goal

pub returns : goal.returns
returns c = cc
