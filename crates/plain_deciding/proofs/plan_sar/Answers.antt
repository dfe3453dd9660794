use Rattle.deciding.proofs.Deciding.{table_whole}
use Rattle.octets.specs.Standard.{rules}
use Rattle.plain_deciding.proofs.plan_sar.Goals as goal

pub numbers-requires : goal.numbers-requires
numbers-requires c = search (rules, table_whole)
