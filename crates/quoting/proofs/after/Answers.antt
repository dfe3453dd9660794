use Rattle.octets.specs.Standard.{rules}
use Rattle.quoting.proofs.Reading.{after_within}
use Rattle.quoting.proofs.after.Goals as goal

pub overflow_add-result : goal.overflow_add-result
overflow_add-result c = search (rules, after_within)

pub returns : goal.returns
returns c = (search rules, search rules, search (rules, after_within))
