use Rattle.reading.proofs.Members.{fits_there}
use Rattle.octets.specs.Standard.{rules}
use Rattle.reading.proofs.Member.fits.Goals as goal

pub returns : goal.returns
returns c = search (rules, fits_there)
