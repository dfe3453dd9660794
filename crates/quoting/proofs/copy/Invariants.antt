use Rattle.octets.specs.Standard.{◌*◌, ◌-◌, ◌≤◌, ◌≡◌, length, drop}
use Rattle.octets.proofs.Writes.{Going}
use Rattle.quoting.specs.Quoted.{taken}
use Rattle.quoting.proofs.copy.Given as goal

abbrev pub invariant-loop-y : goal.invariant-loop-y
invariant-loop-y l = (length l.initial.y-items ≡ l.n) × (l.i ≤ 2 * l.y-index)
    × Going l.initial.y-items l.y-items l.y-index (taken (l.n - l.y-index) (drop l.i l.s)) (taken l.n l.s)
