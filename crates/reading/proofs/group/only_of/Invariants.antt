use Rattle.octets.specs.Standard.{◌-◌, ◌≡◌}
use Rattle.diameter.specs.Reader.{between}
use Rattle.diameter.specs.Walk.{walk}
use Rattle.reading.specs.Groups.{members_of, only_of}
use Rattle.reading.proofs.group.only_of.Given as goal

abbrev pub invariant-loop-at : goal.invariant-loop-at
invariant-loop-at l = only_of (members_of l.d l.g) (walk (between l.s l.at l.span.end)) ≡ only_of (members_of l.d l.g) (walk (between l.s l.span.from l.span.end))

abbrev pub decreases-loop-at : goal.decreases-loop-at
decreases-loop-at l = l.span.end - l.at
