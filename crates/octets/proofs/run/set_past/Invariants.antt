use Rattle.octets.specs.Standard.{◌+◌, ◌*◌, ◌-◌, ◌≤◌, ◌≡◌, eqb}
use Rattle.octets.specs.Run.{zeros}
use Rattle.octets.proofs.run.set_past.Given as goal

abbrev pub invariant-loop-i : goal.invariant-loop-i
invariant-loop-i l = (l.i ≤ l.n) × (l.from ≡ 128 - l.first) × (eqb l.bits 0 ≡ zeros l.s (l.at + l.first) (l.at + 8 * l.i - (l.at + l.first)))

abbrev pub decreases-loop-i : goal.decreases-loop-i
decreases-loop-i l = l.n - l.i
