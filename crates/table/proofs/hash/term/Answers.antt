use Rattle.octets.specs.Standard.{rules}
use Rattle.table.proofs.Hashes.{halves_fit}
use Rattle.table.specs.Hash.{term_at}
use Rattle.table.proofs.hash.term.Goals as goal

pub returns : goal.returns
unfolding term_at
returns c = cc

pub overflow_mul-result : goal.overflow_mul-result
overflow_mul-result c = record { fits = halves_fit _ _ (search rules) (search rules) }
