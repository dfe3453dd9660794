use Rattle.octets.specs.Standard.{◌-◌, ◌≡◌}
use Rattle.diameter.specs.Reader.{between}
use Rattle.diameter.specs.Walk.{walk}
use Rattle.reading.specs.Features.{member_value}
use Rattle.reading.proofs.features.member_value.Given as goal

abbrev pub invariant-loop-at : goal.invariant-loop-at
invariant-loop-at l =
    member_value l.code l.vendor (walk (between l.s l.at l.span.end)) ≡ member_value l.code l.vendor (walk (between l.s l.span.from l.span.end))

abbrev pub decreases-loop-at : goal.decreases-loop-at
decreases-loop-at l = l.span.end - l.at
