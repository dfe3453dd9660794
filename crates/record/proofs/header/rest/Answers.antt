use Rattle.record.proofs.Sound.{header_rest}
use Rattle.octets.specs.Standard.{rules}
use Rattle.record.proofs.header.rest.Goals as goal

pub returns : goal.returns
returns c = search (rules, header_rest)
