use Rattle.reporting.proofs.Events.{counted_fits, counted_one}
use Rattle.octets.specs.Standard.{rules}
use Rattle.reporting.proofs.count_one.Goals as goal

pub count-requires : goal.count-requires
count-requires c = search (rules, counted_fits)

pub returns : goal.returns
returns c = search (rules, counted_one)
