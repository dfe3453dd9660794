use Rattle.plain_vectors.proofs.Turns.{unused_named}
use Rattle.octets.specs.Standard.{rules}
use Rattle.plain_vectors.proofs.unused.Goals as goal

pub returns : goal.returns
returns c = search (rules, unused_named)
