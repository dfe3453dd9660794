use Rattle.table.proofs.Sound.{sound_size}
use Rattle.assignment.proofs.Looks.{sight_none, sight_turn, sight_end}
use Rattle.octets.specs.Standard.{◌-◌, rules, arith}
use Rattle.assignment.proofs.owned.survey_owned.Goals as goal

pub loop-k-init : goal.loop-k-init
loop-k-init c = (search (rules, sound_size), search rules, search (rules, sight_none))

pub loop-k-preserved : goal.loop-k-preserved
loop-k-preserved c = (
  search rules,
  search rules,
  sight_turn _ _ _ _ (c.loop-k.k - 1) c.loop-k.k _ c.loop-k.invariant.2 c.block.ensures c.glimpse-seen.ensures (omega arith) (omega arith),
)

pub returns : goal.returns
returns c = sight_end _ _ _ _ (c.loop-k.k - 1) _ c.loop-k.invariant.2 (omega arith) (omega arith)

pub returns-2 : goal.returns-2
returns-2 c =
    sight_turn _ _ _ _ (c.loop-k.k - 1) c.loop-k.k _ c.loop-k.invariant.2 c.block.ensures c.glimpse-seen.ensures (omega arith) (omega arith)
