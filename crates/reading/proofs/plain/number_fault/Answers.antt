use Rattle.reading.proofs.Judging.{number_long, number_judged}
use Rattle.octets.specs.Standard.{rules}
use Rattle.reading.proofs.plain.number_fault.Goals as goal

pub returns-then-a : goal.returns-then-a
returns-then-a c = search (rules, number_long)

pub returns : goal.returns
returns c = search (rules, number_judged)
