use Rattle.record.proofs.Sound.{record_rest}
use Rattle.octets.specs.Standard.{rules}
use Rattle.record.proofs.subscriber.rest.Goals as goal

pub returns : goal.returns
returns c = search (rules, record_rest)
