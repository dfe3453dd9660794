use Rattle.user_data.proofs.Sizes.{user_data_room, user_data_within}
use Rattle.user_data.proofs.Written.{wrote_user_data}
use Rattle.octets.specs.Standard.{rules}
use Rattle.user_data.proofs.put_user_data.Goals as goal

pub put_avp-requires : goal.put_avp-requires
put_avp-requires c = search (rules, user_data_room)

pub returns : goal.returns
returns c = (search (rules, user_data_within), search (rules, wrote_user_data))
