use Rattle.octets.specs.Standard.{rules}
use Rattle.listing.proofs.Ways.{checked_sound, checked_good, checked_bad}
use Rattle.listing.proofs.export_checked.Goals as goal

pub export_sound-requires : goal.export_sound-requires
export_sound-requires c = search (rules, checked_sound)

pub returns-in-Ok : goal.returns-in-Ok
returns-in-Ok c = search (rules, checked_good)

pub returns-in-Err : goal.returns-in-Err
returns-in-Err c = search (rules, checked_bad)
