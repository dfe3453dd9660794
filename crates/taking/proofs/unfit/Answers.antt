use Rattle.taking.proofs.Ways.{checked_first, unfit_sound, unfit_bad}
use Rattle.octets.specs.Standard.{rules}
use Rattle.taking.proofs.unfit.Goals as goal

pub block-requires : goal.block-requires
block-requires c = search (rules, checked_first)

pub returns-in-Ok : goal.returns-in-Ok
returns-in-Ok c = search (rules, unfit_sound)

pub returns-in-Err : goal.returns-in-Err
returns-in-Err c = search (rules, unfit_bad)
