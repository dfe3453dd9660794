use Rattle.octets.specs.Standard.{◌-◌, ◌≡◌, length}
use Rattle.reading.specs.Places.{seen_of}
use Rattle.plain_reading.specs.Broken.{breaks}
use Rattle.plain_reading.specs.Passes.{first_by}
use Rattle.plain_reading.proofs.listed.Places.pass.Given as goal

abbrev pub invariant-loop-i : goal.invariant-loop-i
invariant-loop-i l = first_by (breaks l.d (seen_of l.self.req.now l.self.list.now) l.letter) (length l.self.list.now) 0 ≡ first_by (breaks l.d (seen_of l.self.req.now l.self.list.now) l.letter) (length l.self.list.now - l.i) l.i
