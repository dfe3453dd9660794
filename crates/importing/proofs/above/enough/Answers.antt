use Rattle.octets.specs.Standard.{rules}
use Rattle.importing.proofs.High.{is_high, enough_other}
use Rattle.importing.proofs.above.enough.Goals as goal

pub enough_high-requires : goal.enough_high-requires
enough_high-requires c = search (rules, is_high)

pub returns-else-tildes : goal.returns-else-tildes
returns-else-tildes c = search (rules, enough_other)
