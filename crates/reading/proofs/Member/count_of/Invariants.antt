use Rattle.octets.specs.Standard.{◌+◌, ◌-◌, ◌≤◌, ◌≡◌}
use Rattle.diameter.specs.Reader.{between}
use Rattle.diameter.specs.Walk.{walk}
use Rattle.reading.specs.Groups.{members_fitting}
use Rattle.reading.proofs.Member.count_of.Given as goal

abbrev pub invariant-loop-at : goal.invariant-loop-at
invariant-loop-at l =
    (l.n ≤ l.at) × (l.n + members_fitting l.self (walk (between l.s l.at l.span.end)) ≡ members_fitting l.self (walk (between l.s l.span.from l.span.end)))

abbrev pub decreases-loop-at : goal.decreases-loop-at
decreases-loop-at l = l.span.end - l.at
