use Rattle.lookup.proofs.Places.{roams_past}
use Rattle.octets.specs.Standard.{rules}
use Rattle.lookup.proofs.roams_at.Goals as goal

pub returns-else-n-lt8 : goal.returns-else-n-lt8
returns-else-n-lt8 c = search (rules, roams_past)
