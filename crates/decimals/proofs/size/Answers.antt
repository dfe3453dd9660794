use Rattle.octets.specs.Standard.{rules}
use Rattle.decimals.proofs.Sizes.{size_none, size_last, size_more, size_end}
use Rattle.decimals.proofs.size.Goals as goal

pub loop-size-init : goal.loop-size-init
loop-size-init c = search (rules, size_none)

pub returns-then-rest-lt10 : goal.returns-then-rest-lt10
returns-then-rest-lt10 c = (search (rules, size_last), search rules, search rules)

pub loop-size-preserved : goal.loop-size-preserved
loop-size-preserved c = search (rules, size_more)

pub returns : goal.returns
returns c = (search (rules, size_end), search rules, search rules)
