use Rattle.octets.specs.Standard.{◌+◌, rules, arith}
use Rattle.std.specs.Fn.{FnReturnsAt}
use Rattle.table.proofs.Sound.{sound_block, sound_few}
use Rattle.lookup.proofs.First.{failed_more, failed_found, failed_all}
use Rattle.lookup.proofs.first_that.Goals as goal
use Rattle.lookup.proofs.first_that.Goals.{else-loop-k-test, then-loop-k-test+else-test+else-k-count}

pub block-requires : goal.block-requires
block-requires g c = search (rules, sound_block)

pub overflow_cast-result : goal.overflow_cast-result
overflow_cast-result g c = let few = sound_few _ _ c.requires.table in search rules

pub loop-k-preserved : goal.loop-k-preserved
loop-k-preserved g c =
    failed_more (FnReturnsAt g.F.Fn c.args.test) _ _ c.loop-k.invariant
    (record { shown = c.block.result; shows = c.block.ensures; says = record { met = c.if-test.ensures } })

pub returns-then-test : goal.returns-then-test
returns-then-test g c p says =
    failed_found (FnReturnsAt g.F.Fn c.args.test) _ _ c.loop-k.invariant p says _ c.loop-k.auto.k c.loop-k-test.true
    (record { shown = c.block.result; shows = c.block.ensures; says = record { met = c.if-test.ensures } })

pub returns : goal.returns
returns g c p says =
    elim c.loop-k-test.branch [
      | else-loop-k-test w ↦ failed_all (FnReturnsAt g.F.Fn c.args.test) _ _ c.loop-k.invariant p says _ (omega arith)
      | then-loop-k-test+else-test+else-k-count w ↦
          failed_all (FnReturnsAt g.F.Fn c.args.test) _ (c.loop-k.k + 1)
          (failed_more (FnReturnsAt g.F.Fn c.args.test) _ _ c.loop-k.invariant
          (record { shown = w.block.result; shows = w.block.ensures; says = record { met = w.if-test.ensures } }))
          p says _ (omega arith)
    ]
