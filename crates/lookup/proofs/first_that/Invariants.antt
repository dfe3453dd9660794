use Rattle.octets.specs.Standard.{ℕ, ◌≤◌, ◌<◌, false}
use Rattle.std.specs.Fn.{FnReturnsAt}
use Rattle.blocks.specs.Blocks.{block_of}
use Rattle.lookup.proofs.first_that.Given as goal

abbrev pub invariant-loop-k : goal.invariant-loop-k
invariant-loop-k g l = (j : ℕ) → 1 ≤ j → j < l.k → FnReturnsAt g.F.Fn l.test (block_of l.t j) false
