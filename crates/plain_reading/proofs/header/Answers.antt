use Rattle.requests.specs.Request.{header_fault}
use Rattle.requests.proofs.Requests.{header_version, header_error, header_command, header_application, header_sound}
use Rattle.octets.specs.Standard.{rules}
use Rattle.plain_reading.proofs.header.Goals as goal

pub returns-then-req-ne-VERSION : goal.returns-then-req-ne-VERSION
unfolding header_fault
returns-then-req-ne-VERSION c = search (rules, header_version)

pub returns-then-req-eq1 : goal.returns-then-req-eq1
unfolding header_fault
returns-then-req-eq1 c = search (rules, header_error)

pub returns-then-not-spoken : goal.returns-then-not-spoken
unfolding header_fault
returns-then-not-spoken c = search (rules, header_command)

pub returns-then-be32-terms : goal.returns-then-be32-terms
unfolding header_fault
returns-then-be32-terms c = search (rules, header_application)

pub returns : goal.returns
unfolding header_fault
returns c = search (rules, header_sound)
