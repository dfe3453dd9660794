use Rattle.std.proofs.lemmas.Fn.{says_at}
use Rattle.octets.specs.Standard.{refl, rules, ap, ◌∙◌, arith}
use Rattle.blocks.specs.Blocks.{block_of}
use Rattle.table.proofs.Sound.{sound_few, sound_size}
use Rattle.lookup.proofs.First.{first_start, first_here, first_next, first_nothing}
use Rattle.plain_lookup.proofs.Looks.{first_last}
use Rattle.plain_lookup.proofs.first.Goals.{else-loop-k-test, then-loop-k-test+else-sought+else-k-count}
use Rattle.plain_lookup.proofs.first.Goals as goal

pub loop-k-init : goal.loop-k-init
loop-k-init g c = (search (rules, sound_few), search (rules, sound_size), λ p h. first_start _ _ refl)

pub returns-then-sought : goal.returns-then-sought
returns-then-sought g c =
    λ p h. first_here (λ j. p (block_of c.args.t.now j)) c.args.count c.loop-k.k (c.loop-k.invariant.2 p h) c.loop-k-test.true
    (h _ _ (says_at g.F.Fn c.sought.ensures refl) ∙ ap p c.block.ensures) c.if-sought.true

pub loop-k-preserved : goal.loop-k-preserved
loop-k-preserved g c = (
  search rules,
  search rules,
  λ p h. first_next (λ j. p (block_of c.args.t.now j)) c.args.count c.loop-k.k (c.loop-k.invariant.2 p h) c.loop-k-test.true
      (h _ _ (says_at g.F.Fn c.sought.ensures refl) ∙ ap p c.block.ensures) c.if-sought.false,
)

pub returns : goal.returns
returns g c = λ p h.
    elim c.loop-k-test.branch [
      | else-loop-k-test w ↦ first_nothing (λ j. p (block_of c.args.t.now j)) c.args.count c.loop-k.k (c.loop-k.invariant.2 p h) (omega arith)
      | then-loop-k-test+else-sought+else-k-count w ↦
          first_last (λ j. p (block_of c.args.t.now j)) c.args.count c.loop-k.k (c.loop-k.invariant.2 p h) (omega arith) (omega arith)
          (h _ _ (says_at g.F.Fn w.sought.ensures refl) ∙ ap p w.block.ensures) w.if-sought.false
    ]
