use Rattle.calling.proofs.Calls.{vectors_sound, over_answered, over_spoilt}
use Rattle.octets.specs.Standard.{rules}
use Rattle.calling.proofs.over_sound.Goals as goal

pub answer_sound-requires : goal.answer_sound-requires
answer_sound-requires c = search (rules, vectors_sound)

pub returns-in-Ok : goal.returns-in-Ok
returns-in-Ok c = search (rules, over_answered)

pub returns-in-Err : goal.returns-in-Err
returns-in-Err c = search (rules, over_spoilt)
