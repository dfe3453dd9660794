use Rattle.rewrite.proofs.Writes.{fits_settled, fits_challenged, change_settled, change_challenged}
use Rattle.octets.specs.Standard.{rules}
use Rattle.rewrite.proofs.change_block.Goals as goal

pub settle_block-requires : goal.settle_block-requires
settle_block-requires c = search (rules, fits_settled)

pub challenge_block-requires : goal.challenge_block-requires
challenge_block-requires c = search (rules, fits_challenged)

pub returns-in-Settled : goal.returns-in-Settled
returns-in-Settled c = (search (rules, change_settled), search rules, search rules)

pub returns-in-Challenged : goal.returns-in-Challenged
returns-in-Challenged c = (search (rules, change_challenged), search rules, search rules)
