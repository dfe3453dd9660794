use Rattle.octets.specs.Standard.{rules}
use Rattle.octets.specs.Name.{same}
use Rattle.record.specs.Fields.{private_of}
use Rattle.table.specs.Named.{private_at}
use Rattle.lookup.specs.Find.{find_private, private_is}
use Rattle.lookup.proofs.find_private.Goals as goal

pub returns : goal.returns
unfolding find_private private_is private_at
returns c = c.first_that.ensures (λ b. same (private_of b) c.args.name.now) (λ b x r. search rules)
