use Rattle.octets.specs.Standard.{refl}
use Rattle.octets.proofs.Runs.{name_whole}
use Rattle.octets.proofs.run.put_name.Goals as goal

pub returns : goal.returns
returns c = name_whole _ _ _ _ _ c.requires.0 c.requires.1 c.put_bytes.ensures (c.fill.ensures.after (λ y e. e)) refl
