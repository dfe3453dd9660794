use Rattle.items.proofs.Items.{wrote_item}
use Rattle.octets.specs.Standard.{rules}
use Rattle.items.proofs.put_item.Goals as goal

pub returns : goal.returns
returns c = search (rules, wrote_item)
