use Rattle.octets.specs.Standard.{rules}
use Rattle.octets.proofs.Masks.{past_more, past_all}
use Rattle.octets.proofs.Runs.{tail_none}
use Rattle.octets.proofs.run.set_past.Goals as goal

pub loop-i-init : goal.loop-i-init
loop-i-init c = (search rules, search rules, search (rules, tail_none))

pub loop-i-preserved : goal.loop-i-preserved
loop-i-preserved c = (
  search rules,
  search rules,
  past_more _ _ _ _ _ (search rules) (search rules) (search rules) (search rules) _ c.loop-i.bits _ _ (search rules) (search rules)
      c.loop-i.invariant.2 c.le64.ensures c.le64-in-loop-i.ensures,
)

pub returns : goal.returns
returns c = search (rules, past_all)
