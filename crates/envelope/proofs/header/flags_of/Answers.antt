use Rattle.envelope.proofs.Written.{flags_error, flags_plain}
use Rattle.octets.specs.Standard.{rules}
use Rattle.envelope.proofs.header.flags_of.Goals as goal

pub returns-then-number_of-eq3 : goal.returns-then-number_of-eq3
returns-then-number_of-eq3 c = search (rules, flags_error)

pub returns : goal.returns
returns c = search (rules, flags_plain)
