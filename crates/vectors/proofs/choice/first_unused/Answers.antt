use Rattle.octets.specs.Standard.{rules, ◌∙◌}
use Rattle.vectors.proofs.Choosing.{left_all, left_full, left_taken, left_passed, left_none}
use Rattle.vectors.proofs.Sound.{few_all, block_fits}
use Rattle.vectors.proofs.choice.first_unused.Goals as goal
use Rattle.vectors.proofs.choice.first_unused.Goals.{then-unused_at, else-unused_at}

pub loop-k-init : goal.loop-k-init
loop-k-init c = search (rules, left_all, few_all)

pub unused_at-requires : goal.unused_at-requires
unused_at-requires c = search (rules, block_fits)

pub returns-then-most-sent : goal.returns-then-most-sent
returns-then-most-sent c = search (rules, left_full)

pub loop-k-preserved : goal.loop-k-preserved
loop-k-preserved c = (
  c.loop-k.invariant.0,
  elim c.if-unused_at.branch [
    | then-unused_at w ↦
        left_taken _ _ _ _ _ c.loop-k.invariant.1 (search rules) c.if-most-sent.false c.unused_at.ensures _
        c.requires.1 w.if-unused_at.true (w.sent-is ∙ w.push.ensures)
    | else-unused_at w ↦
        rw w.sent-is
        (left_passed _ _ _ _ _ c.loop-k.invariant.1 (search rules) c.if-most-sent.false c.unused_at.ensures w.if-unused_at.false)
  ],
)

pub returns-after-loop-k : goal.returns-after-loop-k
returns-after-loop-k c = search (rules, left_none)
