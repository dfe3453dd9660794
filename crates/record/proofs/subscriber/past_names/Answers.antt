use Rattle.record.proofs.Sound.{names_past}
use Rattle.octets.specs.Standard.{rules}
use Rattle.record.proofs.subscriber.past_names.Goals as goal

pub returns : goal.returns
returns c = search (rules, names_past)
