use Rattle.ndushavire_sh.proofs.Calls.{none_early, none_passes, refuses}
use Rattle.octets.specs.Standard.{rules}
use Rattle.ndushavire_sh.proofs.ndushavire_sh_decide.Goals as goal

pub returns-in-Err : goal.returns-in-Err
returns-in-Err c = search (rules, refuses)

pub over_checked-requires : goal.over_checked-requires
over_checked-requires c = search (rules, none_early, none_passes)
