use Rattle.std.proofs.Common.{◌≡◌, ◌*◌, ◌≤◌}
use Rattle.streams.specs.Cases.{start_at}
use Rattle.streams.proofs.case.Words.start.Given as goal

abbrev pub invariant-loop-i : goal.invariant-loop-i
invariant-loop-i l = (l.at ≡ start_at l.self.0 l.i) × (l.at ≤ l.i * 1073741824)
