use Rattle.octets.specs.Standard.{◌≤◌, ◌-◌, ◌≡◌, length}
use Rattle.table.specs.Check.{check_table}
use Rattle.vectors.specs.VectorFile.{check_vectors}
use Rattle.calling.specs.Lent.{lent}
use Rattle.reporting.proofs.Turns.{Going}
use Rattle.reporting.proofs.run.Given as goal

abbrev pub invariant-loop-at : goal.invariant-loop-at
invariant-loop-at l =
    (l.at ≤ length l.requests) × (length l.t ≡ length l.initial.t) × (length l.v ≡ length l.initial.v) × (length l.out ≡ length l.initial.out)
    × (l.k.table ≡ check_table l.t (length l.file)) × (l.k.vectors ≡ check_vectors l.v) × Going (lent l.requests l.initial.t l.file l.initial.v l.initial.out l.k.terms) l.initial.counts l.counts l.t l.v l.out l.at

abbrev pub decreases-loop-at : goal.decreases-loop-at
decreases-loop-at l = length l.requests - l.at
