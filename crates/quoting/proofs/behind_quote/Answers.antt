use Rattle.octets.specs.Standard.{rules}
use Rattle.quoting.proofs.Reading.{not_closing, begun_none, begun_closed, begun_more, begun_not, begun_open}
use Rattle.quoting.proofs.behind_quote.Goals as goal

pub loop-i-init : goal.loop-i-init
loop-i-init c = search (rules, begun_none)

pub returns-then-closes : goal.returns-then-closes
returns-then-closes c = search (rules, begun_closed)

pub after-i-requires : goal.after-i-requires
after-i-requires c = search (rules, not_closing)

pub loop-i-preserved : goal.loop-i-preserved
loop-i-preserved c = (search rules, search rules, search (rules, begun_more))

pub returns-then-not-is_listed : goal.returns-then-not-is_listed
returns-then-not-is_listed c = search (rules, begun_not)

pub returns : goal.returns
returns c = search (rules, begun_open)
