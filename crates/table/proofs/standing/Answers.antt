use Rattle.octets.specs.Standard.{rules}
use Rattle.octets.proofs.All.{all_none}
use Rattle.table.proofs.Leading.{leading_all, leading_more, leading_stop, leading_end, setless_left, setless_more, setless_end}
use Rattle.table.proofs.Padded.{before_first, before_next}
use Rattle.table.proofs.standing.Goals as goal

pub loop-m-init : goal.loop-m-init
loop-m-init c = search (rules, leading_all, all_none, before_first)

pub loop-m-preserved : goal.loop-m-preserved
loop-m-preserved c = (
  leading_more _ _ _ c.loop-m.invariant.0 (search rules) c.stands.ensures c.if-not-stands.false,
  setless_more _ _ c.loop-m.sets _ c.loop-m.invariant.1
      c.set_after-sets.ensures,
  before_next _ _ _ _ c.stands.ensures c.if-not-stands.false,
)

pub returns-then-not-stands : goal.returns-then-not-stands
returns-then-not-stands c = (
  leading_stop _ _ _ c.loop-m.invariant.0 (search rules) c.stands.ensures c.if-not-stands.true,
  search rules,
  setless_left _ _ c.loop-m.sets _ c.loop-m.invariant.1,
)

pub returns : goal.returns
returns c = search (rules, leading_end, setless_end)
