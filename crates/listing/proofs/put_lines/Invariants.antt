use Rattle.octets.specs.Standard.{◌-◌, ◌≤◌, ◌≡◌, length}
use Rattle.octets.specs.Run.{Wrote}
use Rattle.listing.specs.ListOf.{lines_of}
use Rattle.listing.proofs.put_lines.Given as goal

abbrev pub invariant-loop-k : goal.invariant-loop-k
invariant-loop-k l = (l.k ≤ l.count) × (length l.out ≡ length l.initial.out) × (l.n ≤ length l.initial.out) × Wrote (lines_of l.t l.k) l.initial.out l.out l.n

abbrev pub decreases-loop-k : goal.decreases-loop-k
decreases-loop-k l = l.count - l.k
