use Rattle.record.proofs.Sound.{capabilities_past}
use Rattle.octets.specs.Standard.{rules}
use Rattle.record.proofs.subscriber.past_capabilities.Goals as goal

pub returns : goal.returns
returns c = search (rules, capabilities_past)
