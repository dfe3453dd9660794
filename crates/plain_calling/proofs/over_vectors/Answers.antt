use Rattle.calling.proofs.Calls.{vectors_sound}
use Rattle.plain_calling.proofs.Calls.{over_answered, over_spoilt}
use Rattle.octets.specs.Standard.{rules}
use Rattle.plain_calling.proofs.over_vectors.Goals as goal

pub answer-requires : goal.answer-requires
answer-requires c = search (rules, vectors_sound)

pub returns-in-Ok : goal.returns-in-Ok
returns-in-Ok c = search (rules, over_answered)

pub returns-in-Err : goal.returns-in-Err
returns-in-Err c = search (rules, over_spoilt)
