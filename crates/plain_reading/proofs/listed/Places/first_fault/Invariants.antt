use Rattle.octets.specs.Standard.{◌≡◌, length, drop}
use Rattle.reading.specs.Places.{seen_of}
use Rattle.plain_reading.specs.Passes.{letters, pick_from, picked}
use Rattle.plain_reading.proofs.listed.Places.first_fault.Given as goal

abbrev pub invariant-loop-letter : goal.invariant-loop-letter
invariant-loop-letter l =
    picked l.d (seen_of l.self.req.now l.self.list.now)
    ≡ pick_from l.d (seen_of l.self.req.now l.self.list.now) (length (seen_of l.self.req.now l.self.list.now)) 0 l.first (drop l.letter-index letters)
