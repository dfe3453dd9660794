use Rattle.octets.specs.Standard.{◌-◌, ◌≤◌, ◌≡◌, ◌||◌, length, drop}
use Rattle.diameter.specs.Message.{body_of}
use Rattle.diameter.specs.Walk.{walk, some_avp}
use Rattle.reading.specs.Features.{asks_beyond}
use Rattle.requests.specs.Features.{called_in}
use Rattle.requests.proofs.Wanted.{called_from}
use Rattle.requests.proofs.features.wanted_in.Given as goal

abbrev pub invariant-loop-at : goal.invariant-loop-at
invariant-loop-at l = (20 ≤ l.at) × ((l.listed || called_from l.at (walk (drop l.at l.s))) ≡ called_in (body_of l.s))
    × ((l.beyond || some_avp (asks_beyond l.d.terms.features) (walk (drop l.at l.s))) ≡ some_avp (asks_beyond l.d.terms.features) (body_of l.s))

abbrev pub decreases-loop-at : goal.decreases-loop-at
decreases-loop-at l = length l.s - l.at
