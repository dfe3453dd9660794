use Rattle.pen.proofs.Groups.{wrote_features}
use Rattle.octets.specs.Standard.{rules}
use Rattle.pen.proofs.group.put_features.Goals as goal

pub returns : goal.returns
returns c = search (rules, wrote_features)
