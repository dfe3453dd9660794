use Rattle.octets.specs.Standard.{◌≡◌}
use Rattle.octets.specs.Run.{zeros}
use Rattle.octets.proofs.Runs.{part}
use Rattle.octets.proofs.run.zero_between.Given as goal

abbrev pub invariant-loop-b : goal.invariant-loop-b
invariant-loop-b l = (l.run ≡ part l.s l.from l.to) × (l.clear ≡ zeros l.s l.from l.b-index)
