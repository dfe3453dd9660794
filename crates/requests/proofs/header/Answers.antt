use Rattle.requests.proofs.Requests.{header_version, header_error, header_command, header_application, header_sound}
use Rattle.octets.specs.Standard.{rules}
use Rattle.requests.proofs.header.Goals as goal

pub returns-then-req-ne-VERSION : goal.returns-then-req-ne-VERSION
returns-then-req-ne-VERSION c = search (rules, header_version)

pub returns-then-req-eq1 : goal.returns-then-req-eq1
returns-then-req-eq1 c = search (rules, header_error)

pub returns-then-not-has : goal.returns-then-not-has
returns-then-not-has c = search (rules, header_command)

pub returns-then-be32-terms : goal.returns-then-be32-terms
returns-then-be32-terms c = search (rules, header_application)

pub returns : goal.returns
returns c = search (rules, header_sound)
