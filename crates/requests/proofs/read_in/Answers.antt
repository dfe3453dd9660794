use Rattle.requests.proofs.Requests.{request_cx}
use Rattle.octets.specs.Standard.{rules}
use Rattle.requests.proofs.read_in.Goals as goal

pub returns : goal.returns
returns c = search (rules, request_cx)
