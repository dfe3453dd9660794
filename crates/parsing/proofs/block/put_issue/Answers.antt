use Rattle.octets.specs.Standard.{rules}
use Rattle.parsing.proofs.Written.{wrote_issue}
use Rattle.parsing.proofs.block.put_issue.Goals as goal

pub returns : goal.returns
returns c = search (rules, wrote_issue)
