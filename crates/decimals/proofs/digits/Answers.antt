use Rattle.octets.specs.Standard.{rules}
use Rattle.decimals.proofs.Reading.{value_none, value_more, value_room, digit_more, digit_stop, digit_end, digit_least}
use Rattle.decimals.proofs.digits.Goals as goal

pub loop-size-init : goal.loop-size-init
loop-size-init c = search (rules, value_none)

pub returns-then-not-is_digit : goal.returns-then-not-is_digit
returns-then-not-is_digit c = search (rules, digit_stop)

pub with_digit-value-requires : goal.with_digit-value-requires
with_digit-value-requires c = search (rules, value_room, digit_least)

pub loop-size-preserved : goal.loop-size-preserved
loop-size-preserved c = search (rules, value_more, digit_more)

pub returns : goal.returns
returns c = search (rules, digit_end)
