use Rattle.octets.specs.Standard.{rules}
use Rattle.parsing.proofs.Numbers.{reading_none, not_read, reading_more, ended, unended}
use Rattle.parsing.proofs.line.numbers.Goals as goal

pub loop-i-init : goal.loop-i-init
loop-i-init c = (search rules, search rules, search (rules, reading_none))

pub returns-in_err-n : goal.returns-in_err-n
returns-in_err-n c = search (rules, not_read)

pub loop-i-preserved : goal.loop-i-preserved
loop-i-preserved c = (search rules, search rules, reading_more _ _ _ _ _ c.loop-i.invariant.2 c.loop-i-test.true c.in_ok-n.ensures.0 c.loop-i.invariant.0)

pub returns-then-ends_line : goal.returns-then-ends_line
returns-then-ends_line c = search (rules, ended)

pub returns-else-ends_line : goal.returns-else-ends_line
returns-else-ends_line c = search (rules, unended)
