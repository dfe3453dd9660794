use Rattle.octets.specs.Standard.{rules}
use Rattle.quoting.proofs.Writing.{byte_room, byte_wrote}
use Rattle.quoting.proofs.put_byte.Goals as goal

pub returns : goal.returns
returns c = (search (rules, byte_room), search (rules, byte_wrote))
