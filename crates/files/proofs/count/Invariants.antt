use Rattle.std.proofs.Common.{◌≤◌, ◌*◌}
use Rattle.files.proofs.count.Given as goal

abbrev pub invariant-loop-turns : goal.invariant-loop-turns
invariant-loop-turns g l = l.n ≤ 65536 * l.turns
