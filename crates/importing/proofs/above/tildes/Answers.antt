use Rattle.octets.specs.Standard.{◌∙◌}
use Rattle.importing.proofs.High.{tildes_start}
use Rattle.importing.proofs.above.tildes.Goals as goal

pub returns : goal.returns
returns c = c.starts_with.ensures.value ∙ tildes_start c.args.name.now
