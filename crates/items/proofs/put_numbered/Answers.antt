use Rattle.items.proofs.Items.{wrote_numbered}
use Rattle.octets.specs.Standard.{rules}
use Rattle.items.proofs.put_numbered.Goals as goal

pub returns : goal.returns
returns c = search (rules, wrote_numbered)
