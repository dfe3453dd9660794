use Rattle.plain_table.proofs.Places.{place_other}
use Rattle.octets.specs.Standard.{rules}
use Rattle.plain_table.proofs.header.other.Goals as goal

pub returns : goal.returns
returns c = search (rules, place_other)
