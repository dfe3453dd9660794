use Rattle.octets.specs.Standard.{◌+◌, ◌*◌, ◌≤◌, ◌≡◌, length}
use Rattle.parsing.proofs.Numbers.{Reading}
use Rattle.parsing.proofs.line.numbers.Given as goal

abbrev pub invariant-loop-i : goal.invariant-loop-i
invariant-loop-i l = (length l.numbers ≡ 18) × (l.p ≤ l.at + 11 * l.i) × Reading l.s l.at l.numbers l.i l.p
