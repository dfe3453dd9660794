use Rattle.octets.specs.Standard.{◌≤◌, ◌≡◌, length}
use Rattle.reading.specs.Places.{seen_of}
use Rattle.plain_reading.specs.Plain.{last_of}
use Rattle.plain_reading.proofs.listed.Places.place_of.Given as goal

abbrev pub invariant-loop-i : goal.invariant-loop-i
invariant-loop-i l = (l.i ≤ length l.self.list.now) × (last_of (seen_of l.self.req.now l.self.list.now) l.k (length l.self.list.now) ≡ last_of (seen_of l.self.req.now l.self.list.now) l.k l.i)
