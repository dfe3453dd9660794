use Rattle.octets.specs.Standard.{◌∙◌}
use Rattle.plain_table.proofs.Comparing.{less_is}
use Rattle.plain_table.proofs.bytes.less.Goals as goal

pub returns : goal.returns
returns c = c.lt.ensures ∙ less_is _ _
