use Rattle.octets.specs.Standard.{rules}
use Rattle.record.proofs.Places.{places_other}
use Rattle.record.proofs.networks.other.Goals as goal

pub returns : goal.returns
returns c = search (rules, places_other)
