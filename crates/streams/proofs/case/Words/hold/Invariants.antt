use Rattle.std.proofs.Common.{◌≡◌, ◌+◌, ◌≤◌, length}
use Rattle.streams.specs.Cases.{start_at}
use Rattle.streams.proofs.case.Words.hold.Given as goal

abbrev pub invariant-loop-s : goal.invariant-loop-s
invariant-loop-s g l = (start_at l.self.0 l.s + length l.rest ≡ length l.fn.given) × (length l.rest ≤ 65536)
