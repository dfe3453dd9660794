use Rattle.ndushavire.proofs.check_word.Goals as goal

pub returns-in-Ok : goal.returns-in-Ok
returns-in-Ok c = cc

pub returns-in-Err : goal.returns-in-Err
returns-in-Err c = cc
