use Rattle.calling.proofs.Calls.{checked_sound, dialect_own}
use Rattle.plain_calling.proofs.Calls.{wanted_own, over_good, over_bad}
use Rattle.octets.specs.Standard.{rules}
use Rattle.plain_calling.proofs.over_table.Goals as goal

pub over_vectors-requires : goal.over_vectors-requires
over_vectors-requires c = search (rules, checked_sound, dialect_own, wanted_own)

pub returns-in-Ok : goal.returns-in-Ok
returns-in-Ok c = search (rules, over_good)

pub returns-in-Err : goal.returns-in-Err
returns-in-Err c = search (rules, over_bad)
