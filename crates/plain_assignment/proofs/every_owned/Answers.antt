use Rattle.std.proofs.lemmas.Fn.{says_at}
use Rattle.octets.specs.Standard.{refl, rules, arith}
use Rattle.table.proofs.Sound.{sound_few, sound_size}
use Rattle.plain_assignment.proofs.Passes.{owned_start, owned_turn, owned_end}
use Rattle.plain_assignment.proofs.every_owned.Goals as goal

pub loop-k-init : goal.loop-k-init
loop-k-init g c = (search (rules, sound_few), search (rules, sound_size), λ p h. owned_start _ _ _)

pub loop-k-preserved : goal.loop-k-preserved
loop-k-preserved g c = (
  search rules,
  search rules,
  λ p h. owned_turn c.args.t.now p c.args.user.now c.loop-k.k (c.loop-k.invariant.2 p h) c.block-b.ensures c.owned.ensures
      (h _ _ (says_at g.F.Fn c.keeps.ensures refl)),
)

pub returns : goal.returns
returns g c = λ p h. owned_end c.args.t.now p c.args.user.now c.loop-k.k c.args.count (c.loop-k.invariant.2 p h) (omega arith) (omega arith)
