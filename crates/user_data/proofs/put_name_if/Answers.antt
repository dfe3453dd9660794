use Rattle.user_data.proofs.Sizes.{name_room}
use Rattle.user_data.proofs.Written.{wrote_name_there, wrote_no_name}
use Rattle.octets.specs.Standard.{rules}
use Rattle.user_data.proofs.put_name_if.Goals as goal

pub put_name-requires : goal.put_name-requires
put_name-requires c = search (rules, name_room)

pub returns-then-asked-name : goal.returns-then-asked-name
returns-then-asked-name c = search (rules, wrote_name_there)

pub returns-else-asked-name : goal.returns-else-asked-name
returns-else-asked-name c = search (rules, wrote_no_name)
