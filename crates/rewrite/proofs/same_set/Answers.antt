use Rattle.rewrite.proofs.Writes.{set_read}
use Rattle.octets.specs.Standard.{rules}
use Rattle.rewrite.proofs.same_set.Goals as goal

pub returns : goal.returns
returns c = search (rules, set_read)
