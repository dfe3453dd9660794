use Rattle.octets.specs.Standard.{rules}
use Rattle.octets.specs.Name.{same}
use Rattle.record.specs.Fields.{public_of}
use Rattle.table.specs.Named.{public_at}
use Rattle.lookup.specs.Find.{find_public, public_is}
use Rattle.plain_lookup.proofs.find_public.Goals as goal

pub returns : goal.returns
unfolding find_public public_is public_at
returns c = c.first.ensures (λ b. same (public_of b) c.args.name.now) (λ b r h. search rules)
