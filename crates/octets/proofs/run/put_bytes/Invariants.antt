use Rattle.octets.specs.Standard.{◌≤◌, ◌-◌, ◌≡◌, length}
use Rattle.octets.specs.Run.{put_name}
use Rattle.octets.proofs.run.put_bytes.Given as goal

abbrev pub invariant-loop-i : goal.invariant-loop-i
invariant-loop-i l = (l.i ≤ length l.name) × (l.i-end ≡ length l.name) × (length l.s ≡ length l.initial.s) × (l.s ≡ put_name l.initial.s l.at l.name l.i)

abbrev pub decreases-loop-i : goal.decreases-loop-i
decreases-loop-i l = length l.name - l.i
