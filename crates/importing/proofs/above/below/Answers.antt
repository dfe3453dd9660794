use Rattle.octets.specs.Standard.{rules}
use Rattle.importing.proofs.High.{listed_byte_lem}
use Rattle.importing.proofs.above.below.Goals as goal

pub overflow_sub-result : goal.overflow_sub-result
overflow_sub-result c = search (rules, listed_byte_lem)
