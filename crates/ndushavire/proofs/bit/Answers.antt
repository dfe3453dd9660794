use Rattle.ndushavire.proofs.Words.{bit_set, bit_clear}
use Rattle.octets.specs.Standard.{rules}
use Rattle.ndushavire.proofs.bit.Goals as goal

pub returns-then-set : goal.returns-then-set
returns-then-set c = (search (rules, bit_set), search rules)

pub returns-else-set : goal.returns-else-set
returns-else-set c = (search (rules, bit_clear), search rules)
