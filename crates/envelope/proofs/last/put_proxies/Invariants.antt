use Rattle.octets.specs.Standard.{◌≤◌, ◌-◌, ◌≡◌, length, drop}
use Rattle.octets.proofs.Writes.{Going}
use Rattle.diameter.specs.Walk.{walk}
use Rattle.envelope.specs.End.{proxies}
use Rattle.envelope.proofs.last.put_proxies.Given as goal

abbrev pub invariant-loop-at : goal.invariant-loop-at
invariant-loop-at l = (length l.out ≡ length l.initial.out) × (l.n ≤ length l.initial.out)
    × Going l.initial.out l.out l.n (proxies (walk (drop l.at l.req))) (proxies (walk (drop 20 l.req)))

abbrev pub decreases-loop-at : goal.decreases-loop-at
decreases-loop-at l = length l.req - l.at
