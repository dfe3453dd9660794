use Rattle.requests.proofs.Requests.{complete_lacking, complete_whole}
use Rattle.octets.specs.Standard.{rules}
use Rattle.requests.proofs.complete.Goals as goal

pub returns-in-Some : goal.returns-in-Some
returns-in-Some c = search (rules, complete_lacking)

pub returns-in-None : goal.returns-in-None
returns-in-None c = search (rules, complete_whole)
