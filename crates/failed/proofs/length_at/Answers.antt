use Rattle.failed.proofs.Faulty.{length_read}
use Rattle.octets.specs.Standard.{rules}
use Rattle.failed.proofs.length_at.Goals as goal

pub returns : goal.returns
returns c = search (rules, length_read)
