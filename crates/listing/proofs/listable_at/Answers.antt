use Rattle.octets.specs.Standard.{rules}
use Rattle.listing.proofs.Lists.{listable_read}
use Rattle.listing.proofs.listable_at.Goals as goal

pub returns : goal.returns
returns c = search (rules, listable_read)
