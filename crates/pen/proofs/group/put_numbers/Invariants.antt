use Rattle.octets.specs.Standard.{◌*◌, ◌≡◌, length}
use Rattle.octets.specs.Run.{Wrote}
use Rattle.pen.specs.Groups.{vendor_numbers}
use Rattle.pen.proofs.group.put_numbers.Given as goal

abbrev pub invariant-loop-n : goal.invariant-loop-n
invariant-loop-n l =
    (l.at ≡ 16 * l.n-index) × (length l.out ≡ length l.initial.out) × Wrote (vendor_numbers l.code l.src l.n-index) l.initial.out l.out l.at
