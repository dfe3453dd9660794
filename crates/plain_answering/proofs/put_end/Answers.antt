use Rattle.octets.specs.Standard.{rules}
use Rattle.envelope.proofs.Ending.{wrote_end}
use Rattle.plain_answering.proofs.put_end.Goals as goal

pub returns : goal.returns
returns c = search (rules, wrote_end)
