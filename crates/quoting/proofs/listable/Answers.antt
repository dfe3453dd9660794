use Rattle.octets.specs.Standard.{rules}
use Rattle.quoting.proofs.Names.{listable_more, listable_not, listable_all}
use Rattle.quoting.proofs.listable.Goals as goal

pub loop-x-preserved : goal.loop-x-preserved
loop-x-preserved c = search (rules, listable_more)

pub returns-then-not-is_listed : goal.returns-then-not-is_listed
returns-then-not-is_listed c = search (rules, listable_not)

pub returns : goal.returns
returns c = search (rules, listable_all)
