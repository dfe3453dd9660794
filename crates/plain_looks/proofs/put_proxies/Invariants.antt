use Rattle.octets.specs.Standard.{◌-◌, ◌≤◌, ◌≡◌, length}
use Rattle.octets.proofs.Writes.{Going}
use Rattle.diameter.specs.Message.{body_of}
use Rattle.envelope.specs.End.{proxies}
use Rattle.reading.specs.Places.{seen_of}
use Rattle.plain_looks.specs.Looks.{proxies_from}
use Rattle.plain_looks.proofs.put_proxies.Given as goal

abbrev pub invariant-loop-i : goal.invariant-loop-i
invariant-loop-i l = (length l.out ≡ length l.initial.out) × (l.n ≤ length l.initial.out)
    × Going l.initial.out l.out l.n (proxies_from (seen_of l.l.req.now l.l.list.now) (length l.l.list.now - l.i) l.i) (proxies (body_of l.l.req.now))
