use Rattle.octets.specs.Standard.{refl}
use Rattle.pen.proofs.Writers.{wrote_copied}
use Rattle.pen.proofs.put_copy.Goals as goal

pub returns : goal.returns
returns c = (refl, wrote_copied _ c.requires c.copy.ensures (c.fill.ensures.after (λ y e. e)))
