use Rattle.octets.specs.Standard.{rules}
use Rattle.octets.proofs.Eights.{eights_passed}
use Rattle.octets.proofs.name.passed.Goals as goal

pub loop-k-preserved : goal.loop-k-preserved
loop-k-preserved c = (search rules, search (rules, eights_passed))
