use Rattle.user_data.proofs.Sizes.{text_room}
use Rattle.user_data.proofs.Written.{wrote_padded}
use Rattle.octets.specs.Standard.{rules}
use Rattle.user_data.proofs.put_padded.Goals as goal

pub put_data-len-requires : goal.put_data-len-requires
put_data-len-requires c = search (rules, text_room)

pub returns : goal.returns
returns c = search (rules, wrote_padded)
