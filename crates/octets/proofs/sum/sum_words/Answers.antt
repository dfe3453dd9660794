use Rattle.octets.proofs.Columns.{columns_sum}
use Rattle.octets.specs.Standard.{rules}
use Rattle.octets.proofs.sum.sum_words.Goals as goal

pub returns : goal.returns
returns c = search (rules, columns_sum)
