use Rattle.octets.specs.Standard.{rules}
use Rattle.plain_reading.proofs.Turns.{body_fault, body_lacks, body_read}
use Rattle.plain_reading.proofs.listed.Places.read_body.Goals as goal

pub returns-then-at-self : goal.returns-then-at-self
returns-then-at-self c = search (rules, body_fault)

pub returns-in-Some : goal.returns-in-Some
returns-in-Some c =
    body_lacks c.args.d _ c.args.self.now.list.now _ c.first_fault-first.ensures _ c.if-at-self.false c.taken-places.ensures c.in-Some.k c.in-Some.ensures
    c.lacking.ensures

pub returns-in-None : goal.returns-in-None
returns-in-None c = search (rules, body_read)
