use Rattle.items.proofs.Items.{wrote_challenge}
use Rattle.octets.specs.Standard.{rules}
use Rattle.items.proofs.put_challenge.Goals as goal

pub returns : goal.returns
returns c = search (rules, wrote_challenge)
