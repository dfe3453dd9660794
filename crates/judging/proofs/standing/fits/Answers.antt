use Rattle.octets.specs.Standard.{rules}
use Rattle.judging.proofs.Fitting.{name_within, name_listed, behind_fits, behind_not}
use Rattle.judging.proofs.standing.fits.Goals as goal

pub enough-requires : goal.enough-requires
enough-requires c = (search (rules, name_within), search rules, search (rules, name_listed))

pub returns-then-sound : goal.returns-then-sound
returns-then-sound c = search (rules, behind_fits)

pub returns-else-sound : goal.returns-else-sound
returns-else-sound c = search (rules, behind_not)
