use Rattle.octets.proofs.Numbers.{put32_mid}
use Rattle.octets.specs.Standard.{rules, ◌∙◌}
use Rattle.octets.proofs.number.put_be32.Goals as goal

pub returns : goal.returns
returns c = put32_mid _ _ _ c.requires (c.copy_from_slice.ensures.after ∙ search rules)
