use Rattle.plain_table.proofs.Tables.{pair_agrees}
use Rattle.octets.specs.Standard.{rules}
use Rattle.plain_table.proofs.agrees_with.Goals as goal

pub returns : goal.returns
returns c = search (rules, pair_agrees)
