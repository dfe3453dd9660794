use Rattle.diameter.proofs.Reading.{read_all}
use Rattle.octets.specs.Standard.{rules}
use Rattle.diameter.proofs.read_avp.Goals as goal

pub returns : goal.returns
returns c = search (rules, read_all)
