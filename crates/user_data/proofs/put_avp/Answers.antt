use Rattle.user_data.proofs.Written.{wrote_told}
use Rattle.octets.specs.Standard.{rules}
use Rattle.user_data.proofs.put_avp.Goals as goal

pub returns : goal.returns
returns c = (search rules, search (rules, wrote_told))
