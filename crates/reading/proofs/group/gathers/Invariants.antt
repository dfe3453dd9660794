use Rattle.octets.specs.Standard.{true, ◌≡◌}
use Rattle.octets.specs.All.{all_below}
use Rattle.diameter.specs.Reader.{between}
use Rattle.diameter.specs.Walk.{walk}
use Rattle.reading.specs.Groups.{members_of, enough_at}
use Rattle.reading.proofs.group.gathers.Given as goal

abbrev pub invariant-loop-k : goal.invariant-loop-k
invariant-loop-k l = true ≡ all_below (enough_at (members_of l.d l.g) (walk (between l.s l.span.from l.span.end))) l.k
