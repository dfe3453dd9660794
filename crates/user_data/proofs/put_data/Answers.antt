use Rattle.user_data.proofs.Written.{wrote_text}
use Rattle.octets.specs.Standard.{rules}
use Rattle.user_data.proofs.put_data.Goals as goal

pub returns : goal.returns
returns c = search (rules, wrote_text)
