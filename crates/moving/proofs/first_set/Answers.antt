use Rattle.octets.specs.Standard.{◌+◌, rules, arith}
use Rattle.blocks.proofs.First.{first_bad_lem, first_more, first_none, below_stop, past_stop}
use Rattle.moving.specs.Moves.{no_set}
use Rattle.moving.proofs.Turns.{sets_all}
use Rattle.moving.proofs.first_set.Goals as goal
use Rattle.moving.proofs.first_set.Goals.{else-loop-k-test, then-loop-k-test+else-not-no_set+else-k-count}

pub loop-k-init : goal.loop-k-init
loop-k-init c = search (rules, sets_all)

pub returns-then-not-no_set : goal.returns-then-not-no_set
returns-then-not-no_set c = search (rules, first_bad_lem, below_stop)

pub loop-k-preserved : goal.loop-k-preserved
loop-k-preserved c = search (rules, first_more, below_stop)

pub returns : goal.returns
returns c =
    elim c.loop-k-test.branch [
      | else-loop-k-test w ↦ search (rules, first_none, past_stop)
      | then-loop-k-test+else-not-no_set+else-k-count w ↦
          first_none (no_set c.args.t.now) _ _ (c.loop-k.k + 1)
          (first_more _ _ _ _ c.loop-k.invariant (below_stop w.loop-k-test.true) w.no_set.ensures w.if-not-no_set.false)
          (omega arith)
    ]
