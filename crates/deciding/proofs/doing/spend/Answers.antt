use Rattle.vectors.proofs.Sound.{whole_blocks}
use Rattle.octets.specs.Standard.{rules}
use Rattle.deciding.proofs.doing.spend.Goals as goal

pub spend-requires : goal.spend-requires
spend-requires c = search (rules, whole_blocks)
