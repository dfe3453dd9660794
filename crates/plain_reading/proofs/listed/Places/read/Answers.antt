use Rattle.octets.specs.Standard.{rules}
use Rattle.plain_reading.proofs.Turns.{read_header, read_rest}
use Rattle.plain_reading.proofs.listed.Places.read.Goals as goal

pub returns-in_err-header : goal.returns-in_err-header
returns-in_err-header c = search (rules, read_header)

pub returns : goal.returns
returns c = search (rules, read_rest)
