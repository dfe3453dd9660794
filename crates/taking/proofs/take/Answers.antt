use Rattle.taking.proofs.Ways.{over_unfit, fit_first, fit_size, over_not, over_short, over_done}
use Rattle.octets.specs.Standard.{rules}
use Rattle.taking.proofs.take.Goals as goal

pub returns-then-unfit : goal.returns-then-unfit
returns-then-unfit c = search (rules, over_unfit)

pub block-requires : goal.block-requires
block-requires c = search (rules, fit_first)

pub returns-then-not-greater_than_all : goal.returns-then-not-greater_than_all
returns-then-not-greater_than_all c = search (rules, over_not)

pub returns-then-area-fresh : goal.returns-then-area-fresh
returns-then-area-fresh c = search (rules, over_short)

pub write_all-requires : goal.write_all-requires
write_all-requires c = search (rules, fit_size)

pub returns : goal.returns
returns c = search (rules, over_done)
