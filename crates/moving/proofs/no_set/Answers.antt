use Rattle.moving.proofs.Turns.{set_none}
use Rattle.octets.specs.Standard.{rules}
use Rattle.moving.proofs.no_set.Goals as goal

pub returns : goal.returns
returns c = search (rules, set_none)
