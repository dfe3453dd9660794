use Rattle.user_data.proofs.Sizes.{state_room, state_within}
use Rattle.user_data.proofs.Written.{wrote_state_there, wrote_no_state}
use Rattle.octets.specs.Standard.{rules}
use Rattle.user_data.proofs.put_state_if.Goals as goal

pub put_state-requires : goal.put_state-requires
put_state-requires c = search (rules, state_room)

pub returns-then-asked : goal.returns-then-asked
returns-then-asked c = (search (rules, state_within), search (rules, wrote_state_there))

pub returns-else-asked : goal.returns-else-asked
returns-else-asked c = search (rules, wrote_no_state)
