use Rattle.octets.specs.Standard.{rules}
use Rattle.billing.proofs.Ways.{sound_long, line_few, past_sound, past_wrong}
use Rattle.billing.proofs.import_past.Goals as goal

pub write-requires : goal.write-requires
write-requires c = search (rules, sound_long)

pub line-requires : goal.line-requires
line-requires c = search (rules, line_few)

pub returns-in-Ok : goal.returns-in-Ok
returns-in-Ok c = search (rules, past_sound)

pub returns-in-Err : goal.returns-in-Err
returns-in-Err c = search (rules, past_wrong)
