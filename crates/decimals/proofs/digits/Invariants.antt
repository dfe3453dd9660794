use Rattle.octets.specs.Standard.{◌-◌, ◌≡◌}
use Rattle.decimals.specs.Decimal.{past_digits, value_of}
use Rattle.decimals.proofs.digits.Given as goal

abbrev pub invariant-loop-size : goal.invariant-loop-size
invariant-loop-size l = (l.value ≡ value_of l.s l.size) × (past_digits l.s 10 0 ≡ past_digits l.s (10 - l.size) l.size)
