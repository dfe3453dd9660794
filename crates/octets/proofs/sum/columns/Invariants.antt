use Rattle.octets.specs.Standard.{◌*◌, ◌-◌, ◌≤◌, ◌≡◌}
use Rattle.octets.specs.Columns.{whole_of, odd_of}
use Rattle.octets.proofs.sum.columns.Given as goal

abbrev pub invariant-loop-i : goal.invariant-loop-i
invariant-loop-i l = (l.i ≤ l.n) × (l.odd ≤ 16711935 * l.i) × (l.whole ≡ whole_of l.s l.i) × (l.odd ≡ odd_of l.s l.i)

abbrev pub decreases-loop-i : goal.decreases-loop-i
decreases-loop-i l = l.n - l.i
