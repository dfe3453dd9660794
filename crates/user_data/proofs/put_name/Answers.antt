use Rattle.user_data.proofs.Written.{wrote_name}
use Rattle.octets.specs.Standard.{rules}
use Rattle.user_data.proofs.put_name.Goals as goal

pub returns : goal.returns
returns c = search (rules, wrote_name)
