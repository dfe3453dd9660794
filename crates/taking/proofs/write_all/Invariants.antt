use Rattle.octets.specs.Standard.{◌≡◌}
use Rattle.taking.specs.Written.{cut_after}
use Rattle.taking.proofs.write_all.Given as goal

abbrev pub invariant-loop-k : goal.invariant-loop-k
invariant-loop-k l = l.area ≡ cut_after l.initial.area l.fresh l.k
