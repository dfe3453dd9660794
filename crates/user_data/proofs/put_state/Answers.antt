use Rattle.user_data.proofs.Written.{wrote_state}
use Rattle.octets.specs.Standard.{rules}
use Rattle.user_data.proofs.put_state.Goals as goal

pub returns : goal.returns
returns c = search (rules, wrote_state)
