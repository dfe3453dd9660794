use Rattle.octets.specs.Standard.{◌+◌, ◌*◌, ◌-◌, ◌≤◌, ◌≡◌, ◌++◌, length}
use Rattle.listing.specs.ListOf.{first_line, lines_of}
use Rattle.listing.proofs.list_size.Given as goal

abbrev pub invariant-loop-k : goal.invariant-loop-k
invariant-loop-k l = (l.k ≤ l.count) × (l.count ≤ 4096) × (l.n ≤ 121 + 1024 * l.k) × (l.n ≡ length (first_line ++ lines_of l.t l.k))

abbrev pub decreases-loop-k : goal.decreases-loop-k
decreases-loop-k l = l.count - l.k
