use Rattle.octets.specs.Standard.{rules, arith}
use Rattle.judging.proofs.Fitting.{count_few, networks_few, count_read, said_listed}
use Rattle.judging.proofs.Passes.{standing_none, place_small, turned, standing_more, stood_here, stood_end}
use Rattle.judging.proofs.standing.standing.Goals as goal

pub loop-m-init : goal.loop-m-init
loop-m-init c = search (rules, standing_none)

pub read-size-requires : goal.read-size-requires
read-size-requires c = (omega (arith, count_few _ c.requires.0 _ c.read-h.ensures), search rules, search rules)

pub fits-requires : goal.fits-requires
fits-requires c = (search (rules, count_few), search (rules, networks_few), search rules, search rules, search (rules, said_listed))

pub note-requires : goal.note-requires
note-requires c = (
  omega (arith, count_few _ c.requires.0 _ c.read-h.ensures),
  place_small _ _ c.requires.0 _ _ _ _ _ _ c.loop-m.invariant (omega (arith, count_read _ c.requires.0 _ c.read-h.ensures)),
)

pub loop-m-preserved : goal.loop-m-preserved
loop-m-preserved c =
    standing_more _ _ c.requires.0 _ _ _ _ _ _
    c.loop-m.invariant
    (omega (arith, count_read _ c.requires.0 _ c.read-h.ensures))
    (turned _ _ c.requires.0 _ _ _ _ _ _
    c.loop-m.invariant
    _
    (omega (arith, count_read _ c.requires.0 _ c.read-h.ensures))
    c.read-h.ensures
    c.read-size.ensures
    c.set-sets.ensures
    c.fits.ensures)
    c.if-not-fits.false
    c.note.ensures

pub returns-then-not-fits : goal.returns-then-not-fits
returns-then-not-fits c =
    stood_here _ _ c.requires.0 _ _ _ _ _ _
    c.loop-m.invariant
    (omega (arith, count_read _ c.requires.0 _ c.read-h.ensures))
    (turned _ _ c.requires.0 _ _ _ _ _ _
    c.loop-m.invariant
    _
    (omega (arith, count_read _ c.requires.0 _ c.read-h.ensures))
    c.read-h.ensures
    c.read-size.ensures
    c.set-sets.ensures
    c.fits.ensures)
    c.if-not-fits.true

pub returns : goal.returns
returns c = stood_end _ _ c.requires.0 _ _ _ _ _ _ c.loop-m.invariant _ (count_read _ c.requires.0 _ c.read-h.ensures) c.loop-m-test.false
