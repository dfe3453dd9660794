use Rattle.octets.specs.Standard.{sym, ◌∙◌}
use Rattle.billing.proofs.Ways.{fit_read, fit_not}
use Rattle.billing.proofs.fit.Goals as goal

pub returns-in-None : goal.returns-in-None
returns-in-None c = fit_not _ c.in-None.ensures.cases

pub returns-then-sound-h : goal.returns-then-sound-h
returns-then-sound-h c =
    (sym (fit_read _ c.in-Some.ensures.cases.same c.in-Some.ensures.cases.long c.sound.ensures) ∙ c.if-sound-h.true, c.in-Some.ensures.cases.same)

pub returns-else-sound-h : goal.returns-else-sound-h
returns-else-sound-h c = sym (fit_read _ c.in-Some.ensures.cases.same c.in-Some.ensures.cases.long c.sound.ensures) ∙ c.if-sound-h.false
