use Rattle.requests.proofs.Requests.{request_sh}
use Rattle.octets.specs.Standard.{rules}
use Rattle.requests.proofs.read_sh.Goals as goal

pub returns : goal.returns
returns c = search (rules, request_sh)
