use Rattle.reading.proofs.Judging.{unknown_marked, unknown_plain}
use Rattle.octets.specs.Standard.{rules}
use Rattle.reading.proofs.rules.of_unknown.Goals as goal

pub returns-then-flags-eq1 : goal.returns-then-flags-eq1
returns-then-flags-eq1 c = search (rules, unknown_marked)

pub returns : goal.returns
returns c = search (rules, unknown_plain)
