use Rattle.calling.proofs.Calls.{checked_sound, dialect_own, over_good, over_bad}
use Rattle.octets.specs.Standard.{rules}
use Rattle.calling.proofs.over_checked.Goals as goal

pub over_sound-requires : goal.over_sound-requires
over_sound-requires c = search (rules, checked_sound, dialect_own)

pub returns-in-Ok : goal.returns-in-Ok
returns-in-Ok c = search (rules, over_good)

pub returns-in-Err : goal.returns-in-Err
returns-in-Err c = search (rules, over_bad)
