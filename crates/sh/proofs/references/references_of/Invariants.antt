use Rattle.octets.specs.Standard.{◌-◌, ◌≡◌, ◌||◌, length, drop}
use Rattle.diameter.specs.Message.{body_of}
use Rattle.diameter.specs.Walk.{walk, some_avp}
use Rattle.sh.specs.Referring.{refers, refers_other}
use Rattle.sh.proofs.references.references_of.Given as goal

abbrev pub invariant-loop-at : goal.invariant-loop-at
invariant-loop-at l = ((l.state || some_avp (refers 11) (walk (drop l.at l.s))) ≡ some_avp (refers 11) (body_of l.s))
    × ((l.name || some_avp (refers 12) (walk (drop l.at l.s))) ≡ some_avp (refers 12) (body_of l.s))
    × ((l.other || some_avp refers_other (walk (drop l.at l.s))) ≡ some_avp refers_other (body_of l.s))

abbrev pub decreases-loop-at : goal.decreases-loop-at
decreases-loop-at l = length l.s - l.at
