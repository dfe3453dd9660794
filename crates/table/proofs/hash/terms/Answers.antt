use Rattle.octets.specs.Standard.{rules}
use Rattle.table.proofs.Hashes.{terms_none, terms_more, terms_all}
use Rattle.table.proofs.hash.terms.Goals as goal

pub loop-i-init : goal.loop-i-init
loop-i-init c = search (rules, terms_none)

pub loop-i-preserved : goal.loop-i-preserved
loop-i-preserved c = search (rules, terms_more)

pub returns : goal.returns
returns c = search (rules, terms_all)
