use Rattle.octets.specs.Standard.{rules, ap, ◌∙◌}
use Rattle.octets.specs.Name.{same}
use Rattle.record.specs.Fields.{private_of}
use Rattle.table.specs.Named.{private_at}
use Rattle.lookup.specs.Find.{is_at, find_private, private_is}
use Rattle.plain_lookup.proofs.Looks.{some_at}
use Rattle.plain_lookup.proofs.known_private.Goals as goal

pub returns : goal.returns
unfolding find_private private_is private_at
returns c = c.is_some.ensures ∙ some_at _ ∙ ap is_at (c.first.ensures (λ b. same (private_of b) c.args.name.now) (λ b r h. search rules))
