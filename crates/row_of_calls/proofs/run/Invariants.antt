use Rattle.octets.specs.Standard.{◌≤◌, ◌-◌, ◌*◌, ◌≡◌, length}
use Rattle.table.specs.Area.{size_in}
use Rattle.table.specs.Check.{check_table}
use Rattle.vectors.specs.VectorFile.{check_vectors}
use Rattle.calling.specs.Lent.{lent}
use Rattle.row_of_calls.proofs.Turns.{Going, sums}
use Rattle.row_of_calls.proofs.run.Given as goal

abbrev pub invariant-loop-at : goal.invariant-loop-at
invariant-loop-at l =
    (l.at ≤ length l.requests) × (length l.t ≡ length l.initial.t) × (length l.v ≡ length l.initial.v) × (length l.answers ≡ length l.initial.answers) × (length l.words ≡ length l.initial.words)
    × (l.used ≤ length l.answers) × (8 * l.served ≤ length l.words) × (l.served ≤ 4294967295)
    × (l.k.table ≡ check_table l.t (length l.file)) × (l.k.vectors ≡ check_vectors l.v) × (length l.t ≤ size_in l.t)
    × Going (lent l.requests l.initial.t l.file l.initial.v l.initial.answers l.k.terms) l.initial.words (lent l.requests l.t l.file l.v l.answers l.k.terms) l.words (sums l.at l.used l.served l.altered l.marked)

abbrev pub decreases-loop-at : goal.decreases-loop-at
decreases-loop-at l = length l.requests - l.at
