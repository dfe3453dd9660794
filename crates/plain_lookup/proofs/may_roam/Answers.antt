use Rattle.plain_lookup.proofs.Looks.{roams, roams_nowhere}
use Rattle.octets.specs.Standard.{rules}
use Rattle.plain_lookup.proofs.may_roam.Goals as goal

pub returns-in-Some : goal.returns-in-Some
returns-in-Some c = search (rules, roams)

pub returns-in-None : goal.returns-in-None
returns-in-None c = search (rules, roams_nowhere)
