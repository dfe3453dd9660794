use Rattle.octets.specs.Standard.{rules}
use Rattle.listing.specs.ListOf.{first_line}
use Rattle.judging.proofs.Passes.{titled_read}
use Rattle.judging.proofs.titled.Goals as goal

pub returns : goal.returns
unfolding first_line
returns c = search (rules, titled_read)
