use Rattle.octets.specs.Standard.{◌≡◌}
use Rattle.table.specs.Hash.{sum_terms}
use Rattle.table.proofs.hash.terms.Given as goal

abbrev pub invariant-loop-i : goal.invariant-loop-i
invariant-loop-i l = l.sum ≡ sum_terms l.s l.h l.i
