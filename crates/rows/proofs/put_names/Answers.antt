use Rattle.octets.specs.Standard.{rules}
use Rattle.rows.proofs.Written.{wrote_names}
use Rattle.rows.proofs.put_names.Goals as goal

pub returns : goal.returns
returns c = (search rules, search (rules, wrote_names))
