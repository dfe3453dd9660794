use Rattle.octets.specs.Standard.{◌-◌, ◌<◌, ◌≤◌, length}
use Rattle.quoting.proofs.Reading.{Begun}
use Rattle.quoting.proofs.behind_quote.Given as goal

abbrev pub invariant-loop-i : goal.invariant-loop-i
invariant-loop-i l = (l.length < l.i) × (l.i ≤ length l.s) × Begun l.s l.i l.length

abbrev pub decreases-loop-i : goal.decreases-loop-i
decreases-loop-i l = length l.s - l.i
