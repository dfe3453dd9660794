use Rattle.envelope.proofs.Written.{base_room, experimental_room, base_count, experimental_count, wrote_base, wrote_experimental}
use Rattle.octets.specs.Standard.{rules}
use Rattle.envelope.proofs.front.put_result.Goals as goal

pub put_base-requires : goal.put_base-requires
put_base-requires c = search (rules, base_room)

pub put_experimental-requires : goal.put_experimental-requires
put_experimental-requires c = search (rules, experimental_room)

pub returns-in-Base : goal.returns-in-Base
returns-in-Base c = search (rules, base_count, wrote_base)

pub returns-in-Experimental : goal.returns-in-Experimental
returns-in-Experimental c = search (rules, experimental_count, wrote_experimental)
