use Rattle.reading.proofs.Known.{in_udr, in_uar, in_sar, in_lir, in_mar}
use Rattle.octets.specs.Standard.{rules}
use Rattle.reading.proofs.kinds.use_in.Goals as goal

pub returns-then-terms-eq-SH : goal.returns-then-terms-eq-SH
returns-then-terms-eq-SH c = search (rules, in_udr)

pub returns-in-300 : goal.returns-in-300
returns-in-300 c = search (rules, in_uar)

pub returns-in-301 : goal.returns-in-301
returns-in-301 c = search (rules, in_sar)

pub returns-in-302 : goal.returns-in-302
returns-in-302 c = search (rules, in_lir)

pub returns-in_default : goal.returns-in_default
returns-in_default c = search (rules, in_mar)
