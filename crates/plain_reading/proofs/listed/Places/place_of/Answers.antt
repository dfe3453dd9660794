use Rattle.octets.specs.Standard.{rules}
use Rattle.plain_reading.proofs.Turns.{last_none, last_here, last_other, place_taken, place_skipped}
use Rattle.plain_reading.proofs.listed.Places.place_of.Goals as goal
use Rattle.plain_reading.proofs.listed.Places.place_of.Goals.{then-named+else-loop-i-test, else-named}

pub returns-then-kind_at-k : goal.returns-then-kind_at-k
returns-then-kind_at-k c = search (rules, last_here, place_taken)

pub loop-i-preserved : goal.loop-i-preserved
loop-i-preserved c = search (rules, last_other)

pub returns : goal.returns
returns c =
    elim c.if-named.branch [
      | then-named+else-loop-i-test w ↦ search (rules, last_none, place_taken)
      | else-named w ↦ search (rules, place_skipped)
    ]
