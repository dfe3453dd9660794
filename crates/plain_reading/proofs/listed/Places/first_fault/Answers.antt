use Rattle.octets.specs.Standard.{rules, refl}
use Rattle.plain_reading.specs.Passes.{letters}
use Rattle.plain_reading.proofs.Turns.{picked_start, picked_turn, picked_end}
use Rattle.plain_reading.proofs.listed.Places.first_fault.Goals as goal

pub loop-letter-init : goal.loop-letter-init
loop-letter-init c = search (rules, picked_start)

pub loop-letter-preserved : goal.loop-letter-preserved
unfolding letters
loop-letter-preserved c =
    picked_turn _ _ c.loop-letter.letter-index c.loop-letter.first c.loop-letter.invariant _ c.loop-letter-test.true refl c.pass.ensures c.earlier-first.ensures

pub returns : goal.returns
unfolding letters
returns c = picked_end _ _ c.loop-letter.letter-index c.loop-letter.first c.loop-letter.invariant c.loop-letter-test.false
