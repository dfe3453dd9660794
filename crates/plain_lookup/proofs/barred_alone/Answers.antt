use Rattle.plain_lookup.proofs.Looks.{alone}
use Rattle.octets.specs.Standard.{rules}
use Rattle.plain_lookup.proofs.barred_alone.Goals as goal

pub returns : goal.returns
returns c = search (rules, alone)
