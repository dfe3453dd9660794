use Rattle.octets.specs.Standard.{rules}
use Rattle.listing.proofs.Ways.{writing_short, writing_holds}
use Rattle.listing.proofs.write.Goals as goal

pub returns-then-list-size : goal.returns-then-list-size
returns-then-list-size c = search (rules, writing_short)

pub returns : goal.returns
returns c = search (rules, writing_holds)
