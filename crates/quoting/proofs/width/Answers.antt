use Rattle.octets.specs.Standard.{rules}
use Rattle.quoting.proofs.Names.{width_quote, width_other}
use Rattle.quoting.proofs.width.Goals as goal

pub returns-then-x-eq-QUOTE : goal.returns-then-x-eq-QUOTE
returns-then-x-eq-QUOTE c = search (rules, width_quote)

pub returns-else-x-eq-QUOTE : goal.returns-else-x-eq-QUOTE
returns-else-x-eq-QUOTE c = search (rules, width_other)
