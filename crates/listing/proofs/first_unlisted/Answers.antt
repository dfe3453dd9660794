use Rattle.octets.specs.Standard.{◌+◌, rules, arith}
use Rattle.blocks.proofs.First.{first_bad_lem, first_more, first_none, below_stop, past_stop}
use Rattle.listing.specs.ListOf.{listable_at}
use Rattle.listing.proofs.Lists.{unlisted_all}
use Rattle.listing.proofs.first_unlisted.Goals as goal
use Rattle.listing.proofs.first_unlisted.Goals.{else-loop-k-test, then-loop-k-test+else-not-listable_at+else-k-count}

pub loop-k-init : goal.loop-k-init
loop-k-init c = search (rules, unlisted_all)

pub returns-then-not-listable_at : goal.returns-then-not-listable_at
returns-then-not-listable_at c = search (rules, first_bad_lem, below_stop)

pub loop-k-preserved : goal.loop-k-preserved
loop-k-preserved c = search (rules, first_more, below_stop)

pub returns : goal.returns
returns c =
    elim c.loop-k-test.branch [
      | else-loop-k-test w ↦ search (rules, first_none, past_stop)
      | then-loop-k-test+else-not-listable_at+else-k-count w ↦
          first_none (listable_at c.args.t.now) _ _ (c.loop-k.k + 1)
          (first_more _ _ _ _ c.loop-k.invariant (below_stop w.loop-k-test.true) w.listable_at.ensures w.if-not-listable_at.false)
          (omega arith)
    ]
