use Rattle.octets.specs.All.{all_below}
use Rattle.octets.specs.Name.{alike_at}
use Rattle.octets.specs.Standard.{◌≤◌, ◌-◌, ◌≡◌, length}
use Rattle.plain_table.proofs.bytes.same.Given as goal

abbrev pub invariant-loop-i : goal.invariant-loop-i
invariant-loop-i l = (l.i ≤ length l.s) × (l.i-end ≡ length l.s) × (length l.s ≡ length l.t) × (l.alike ≡ all_below (alike_at l.s l.t) l.i)

abbrev pub decreases-loop-i : goal.decreases-loop-i
decreases-loop-i l = length l.s - l.i
