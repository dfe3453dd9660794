use Rattle.octets.specs.Standard.{rules}
use Rattle.octets.proofs.Runs.{name_none, name_more, name_all}
use Rattle.octets.proofs.run.put_bytes.Goals as goal

pub loop-i-init : goal.loop-i-init
loop-i-init c = search (rules, name_none)

pub loop-i-preserved : goal.loop-i-preserved
loop-i-preserved c = (search rules, search rules, search rules, search (rules, name_more))

pub returns : goal.returns
returns c = search (rules, name_all)
