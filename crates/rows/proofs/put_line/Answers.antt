use Rattle.octets.specs.Standard.{rules}
use Rattle.rows.proofs.Written.{names_room, numbers_room, wrote_line}
use Rattle.rows.proofs.put_line.Goals as goal

pub put_names-n-requires : goal.put_names-n-requires
put_names-n-requires c = search (rules, names_room)

pub put_numbers-requires : goal.put_numbers-requires
put_numbers-requires c = search (rules, numbers_room)

pub returns : goal.returns
returns c = search (rules, wrote_line)
