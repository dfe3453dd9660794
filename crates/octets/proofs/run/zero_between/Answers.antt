use Rattle.octets.specs.Standard.{rules}
use Rattle.octets.proofs.Runs.{run_none, run_more, run_all}
use Rattle.octets.proofs.run.zero_between.Goals as goal

pub loop-b-init : goal.loop-b-init
loop-b-init c = (search rules, search (rules, run_none))

pub loop-b-preserved : goal.loop-b-preserved
loop-b-preserved c = (search rules, search (rules, run_more))

pub returns : goal.returns
returns c = search (rules, run_all)
