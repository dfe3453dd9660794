use Rattle.deciding.proofs.Deciding.{deed_settles, deed_challenges}
use Rattle.octets.specs.Standard.{rules}
use Rattle.plain_deciding.proofs.carry_out.Goals as goal

pub settle-requires : goal.settle-requires
settle-requires c = search (rules, deed_settles)

pub challenge-requires : goal.challenge-requires
challenge-requires c = search (rules, deed_challenges)
