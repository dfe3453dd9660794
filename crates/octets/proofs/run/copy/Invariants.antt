use Rattle.octets.specs.Standard.{◌≤◌, ◌-◌, ◌≡◌, length, take}
use Rattle.octets.specs.Run.{over}
use Rattle.octets.proofs.run.copy.Given as goal

abbrev pub invariant-loop-i : goal.invariant-loop-i
invariant-loop-i l = (l.i ≤ length l.src) × (l.i-end ≡ length l.src) × (length l.out ≡ length l.initial.out) × (l.out ≡ over (take l.i l.src) l.initial.out)

abbrev pub decreases-loop-i : goal.decreases-loop-i
decreases-loop-i l = length l.src - l.i
