use Rattle.pen.proofs.Writers.{wrote_long_head}
use Rattle.octets.specs.Standard.{rules}
use Rattle.pen.proofs.put_long_head.Goals as goal

pub returns : goal.returns
returns c = search (rules, wrote_long_head)
