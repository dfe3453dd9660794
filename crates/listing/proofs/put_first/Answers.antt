use Rattle.octets.specs.Standard.{rules}
use Rattle.listing.specs.ListOf.{first_line}
use Rattle.listing.proofs.put_first.Goals as goal

pub copy-requires : goal.copy-requires
unfolding first_line
copy-requires c = search rules

pub returns : goal.returns
unfolding first_line
returns c = search rules
