use Rattle.vectors.proofs.Marks.{mark_put}
use Rattle.octets.specs.Standard.{rules}
use Rattle.vectors.proofs.mark.mark.Goals as goal

pub returns : goal.returns
returns c = search (rules, mark_put)
