use Rattle.octets.specs.Standard.{rules}
use Rattle.table.proofs.Leading.{leading_all, leading_more, leading_stop, leading_end}
use Rattle.table.proofs.Remembered.{remember_none, agreed_none, agreed_more}
use Rattle.saying.proofs.Reading.{place_first}
use Rattle.judging.proofs.Slots.{noted_next}
use Rattle.judging.proofs.members.agreeing.Goals as goal

pub loop-m-init : goal.loop-m-init
loop-m-init c = (search (rules, leading_all), search (rules, remember_none), search (rules, agreed_none), search (rules, place_first), search rules)

pub agrees_by-requires : goal.agrees_by-requires
agrees_by-requires c = (
  search rules,
  search rules,
  search rules,
  search rules,
  search (rules, noted_next),
  search rules,
  search rules,
  search rules,
)

pub loop-m-preserved : goal.loop-m-preserved
loop-m-preserved c = (search (rules, leading_more), search rules, search (rules, agreed_more), search rules, search rules)

pub returns-then-not-agrees_by : goal.returns-then-not-agrees_by
returns-then-not-agrees_by c = (search (rules, leading_stop), search rules)

pub returns : goal.returns
returns c = (search (rules, leading_end), search rules)
