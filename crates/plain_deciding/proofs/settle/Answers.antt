use Rattle.deciding.proofs.Deciding.{stored_fits, settled_owned, settled_named}
use Rattle.octets.specs.Standard.{rules}
use Rattle.plain_deciding.proofs.settle.Goals as goal

pub settle_owned-requires : goal.settle_owned-requires
settle_owned-requires c = search (rules, stored_fits)

pub returns-then-w : goal.returns-then-w
returns-then-w c = search (rules, settled_owned)

pub settle_named-requires : goal.settle_named-requires
settle_named-requires c = search (rules, stored_fits)

pub returns : goal.returns
returns c = search (rules, settled_named)
