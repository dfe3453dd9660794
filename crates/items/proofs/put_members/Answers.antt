use Rattle.octets.proofs.Writes.{then}
use Rattle.octets.specs.Standard.{rules}
use Rattle.items.proofs.put_members.Goals as goal

pub returns : goal.returns
returns c = search (rules, then)
