use Rattle.table.proofs.Sound.{sound_few, sound_size}
use Rattle.assignment.proofs.OwnTurns.{owned_start, owned_next, owned_end, owned_sum}
use Rattle.assignment.proofs.NameTurns.{change_fits}
use Rattle.octets.specs.Standard.{◌-◌, refl, rules, arith}
use Rattle.assignment.proofs.owned.settle_owned.Goals as goal

pub loop-k-init : goal.loop-k-init
loop-k-init c = (search (rules, sound_few), search rules, search (rules, sound_size), search (rules, sound_size), search rules, search (rules, owned_start))

pub change_if-altered-requires : goal.change_if-altered-requires
change_if-altered-requires c = (search rules, search (rules, change_fits))

pub loop-k-preserved : goal.loop-k-preserved
loop-k-preserved c = (
  search rules,
  search rules,
  search rules,
  search rules,
  search rules,
  owned_next _ _ _ _ _ (search rules) (search rules) (c.loop-k.k - 1) _ _ c.loop-k.invariant.5 c.loop-k.k _ (omega arith) (omega arith) (omega arith)
      c.block.ensures c.owned-chosen.ensures refl c.change_if-altered.ensures.0 c.change_if-altered.ensures.1,
)

pub returns : goal.returns
returns c = (
  owned_end _ _ _ _ _ (search rules) (search rules) (c.loop-k.k - 1) _ _ c.loop-k.invariant.5 (omega arith) (omega arith),
  owned_sum _ _ _ _ _ (search rules) (search rules) (c.loop-k.k - 1) _ _ c.loop-k.invariant.5 (omega arith) (omega arith),
)

pub returns-2 : goal.returns-2
returns-2 c = (
  owned_end _ _ _ _ _ (search rules) (search rules) c.args.count _ _ (
      owned_next _ _ _ _ _ (search rules) (search rules) (c.loop-k.k - 1) _ _ c.loop-k.invariant.5 c.loop-k.k _ (omega arith) (omega arith) (omega arith)
      c.block.ensures c.owned-chosen.ensures refl c.change_if-altered.ensures.0 c.change_if-altered.ensures.1
      ) (omega arith) (omega arith),
  owned_sum _ _ _ _ _ (search rules) (search rules) c.args.count _ _ (
      owned_next _ _ _ _ _ (search rules) (search rules) (c.loop-k.k - 1) _ _ c.loop-k.invariant.5 c.loop-k.k _ (omega arith) (omega arith) (omega arith)
      c.block.ensures c.owned-chosen.ensures refl c.change_if-altered.ensures.0 c.change_if-altered.ensures.1
      ) (omega arith) (omega arith),
)
