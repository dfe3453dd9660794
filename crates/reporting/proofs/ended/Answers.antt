use Rattle.octets.specs.Standard.{rules}
use Rattle.reporting.proofs.Whole.{used_up, stops_early}
use Rattle.reporting.proofs.ended.Goals as goal

pub returns-then-stop-length : goal.returns-then-stop-length
returns-then-stop-length c = search (rules, used_up)

pub returns-else-stop-length : goal.returns-else-stop-length
returns-else-stop-length c = search (rules, stops_early)
