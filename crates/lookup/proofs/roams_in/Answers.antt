use Rattle.lookup.proofs.Places.{roams_all}
use Rattle.octets.specs.Standard.{rules}
use Rattle.lookup.proofs.roams_in.Goals as goal

pub returns : goal.returns
returns c = search (rules, roams_all)
