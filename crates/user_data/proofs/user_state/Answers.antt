use Rattle.user_data.proofs.Written.{state_one, state_two, state_pending, state_none}
use Rattle.octets.specs.Standard.{rules}
use Rattle.user_data.proofs.user_state.Goals as goal

pub returns-in-1 : goal.returns-in-1
returns-in-1 c = search (rules, state_one)

pub returns-in-2 : goal.returns-in-2
returns-in-2 c = search (rules, state_two)

pub returns-in_default : goal.returns-in_default
returns-in_default c = search (rules, state_pending)

pub returns-in_default-2 : goal.returns-in_default-2
returns-in_default-2 c = search (rules, state_none)
