use Rattle.octets.specs.Standard.{rules}
use Rattle.quoting.proofs.Names.{size_none, size_more, size_all}
use Rattle.quoting.proofs.size.Goals as goal

pub loop-x-init : goal.loop-x-init
loop-x-init c = search (rules, size_none)

pub loop-x-preserved : goal.loop-x-preserved
loop-x-preserved c = (search rules, search (rules, size_more))

pub returns : goal.returns
returns c = search (rules, size_all)
