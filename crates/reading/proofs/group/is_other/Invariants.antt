use Rattle.octets.specs.Standard.{true, ◌≡◌}
use Rattle.octets.specs.All.{all_below}
use Rattle.diameter.specs.Reader.{own_of}
use Rattle.reading.specs.Groups.{members_of, unlike}
use Rattle.reading.proofs.group.is_other.Given as goal

abbrev pub invariant-loop-k : goal.invariant-loop-k
invariant-loop-k l = true ≡ all_below (unlike (members_of l.d l.g) (own_of l.s l.a)) l.k
