use Rattle.octets.specs.Standard.{rules}
use Rattle.quoting.proofs.Reading.{closes_read}
use Rattle.quoting.proofs.closes.Goals as goal

pub returns : goal.returns
returns c = search (rules, closes_read)
