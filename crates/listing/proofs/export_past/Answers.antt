use Rattle.octets.specs.Standard.{rules}
use Rattle.listing.proofs.Ways.{past_listed, past_unlisted}
use Rattle.listing.proofs.export_past.Goals as goal

pub returns-in-Ok : goal.returns-in-Ok
returns-in-Ok c = search (rules, past_listed)

pub returns-in-Err : goal.returns-in-Err
returns-in-Err c = search (rules, past_unlisted)
