use Rattle.octets.specs.Standard.{◌*◌, ◌-◌, ◌≤◌, ◌≡◌, eqb}
use Rattle.octets.specs.All.{all_below}
use Rattle.octets.specs.Name.{alike_from}
use Rattle.octets.proofs.name.alike_words.Given as goal

abbrev pub invariant-loop-j : goal.invariant-loop-j
invariant-loop-j l = (l.j ≤ 8) × (eqb l.bits 0 ≡ all_below (alike_from l.s l.t l.i) (4 * l.j))

abbrev pub decreases-loop-j : goal.decreases-loop-j
decreases-loop-j l = 8 - l.j
