use Rattle.record.proofs.Sound.{bits_barred}
use Rattle.octets.specs.Standard.{rules}
use Rattle.record.proofs.fields.barred.Goals as goal

pub returns : goal.returns
returns c = search (rules, bits_barred)
