use Rattle.octets.specs.Standard.{◌*◌, ◌-◌, ◌≤◌, ◌≡◌, eqb}
use Rattle.octets.specs.Run.{zeros}
use Rattle.octets.proofs.run.set_bits.Given as goal

abbrev pub invariant-loop-i : goal.invariant-loop-i
invariant-loop-i l = (l.i ≤ l.n) × (eqb l.bits 0 ≡ zeros l.s l.at (8 * l.i))

abbrev pub decreases-loop-i : goal.decreases-loop-i
decreases-loop-i l = l.n - l.i
