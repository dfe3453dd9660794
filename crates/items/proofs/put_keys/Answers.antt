use Rattle.items.proofs.Items.{wrote_keys}
use Rattle.octets.specs.Standard.{rules}
use Rattle.items.proofs.put_keys.Goals as goal

pub returns : goal.returns
returns c = search (rules, wrote_keys)
