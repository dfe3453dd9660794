use Rattle.octets.specs.Sum.{sum_words}
use Rattle.octets.specs.Standard.{◌≤◌, ◌-◌, ◌≡◌, length}
use Rattle.plain_table.proofs.bytes.sum.Given as goal

abbrev pub invariant-loop-i : goal.invariant-loop-i
invariant-loop-i l = (l.i ≤ 128) × (length l.b ≡ 512) × (l.sum ≡ sum_words l.b l.i)

abbrev pub decreases-loop-i : goal.decreases-loop-i
decreases-loop-i l = 128 - l.i
