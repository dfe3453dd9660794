use Rattle.record.proofs.Sound.{bits_services}
use Rattle.octets.specs.Standard.{rules}
use Rattle.record.proofs.fields.unregistered_services.Goals as goal

pub returns : goal.returns
returns c = search (rules, bits_services)
