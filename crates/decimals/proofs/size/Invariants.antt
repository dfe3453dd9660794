use Rattle.octets.specs.Standard.{◌+◌, ◌-◌, ◌≡◌}
use Rattle.decimals.specs.Decimal.{digits_more, digit_count}
use Rattle.decimals.proofs.size.Given as goal

abbrev pub invariant-loop-size : goal.invariant-loop-size
invariant-loop-size l = digit_count l.n ≡ l.size + digits_more (10 - l.size) l.rest
