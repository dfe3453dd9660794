use Rattle.rewrite.proofs.Unchanged.{held_all}
use Rattle.octets.specs.Standard.{rules}
use Rattle.rewrite.proofs.held.Goals as goal

pub returns : goal.returns
returns c = search (rules, held_all)
