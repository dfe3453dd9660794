use Rattle.octets.specs.Standard.{◌≡◌, length, take}
use Rattle.reading.specs.Kinds.{kinds}
use Rattle.reading.specs.Places.{seen_of}
use Rattle.plain_reading.specs.Plain.{taken_of, each_below}
use Rattle.plain_reading.proofs.listed.Places.taken.Given as goal

abbrev pub invariant-loop-k : goal.invariant-loop-k
invariant-loop-k l =
    (length l.place-items ≡ kinds)
    × (take l.k (seen_of l.self.req.now l.place-items) ≡ each_below (taken_of l.d (seen_of l.self.req.now l.self.list.now) (length l.self.list.now)) l.k)
