use Rattle.ndushavire.proofs.Words.{vectors_kept}
use Rattle.octets.specs.Standard.{rules}
use Rattle.ndushavire.proofs.ndushavire_check_vectors.Goals as goal

pub returns : goal.returns
returns c = search (rules, vectors_kept)
