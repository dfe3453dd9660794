use Rattle.markup.proofs.Written.{room_ampersand, room_less, room_greater, room_quote, room_apostrophe, room_other}
use Rattle.markup.proofs.Written.{wrote_ampersand, wrote_less, wrote_greater, wrote_quote, wrote_apostrophe, wrote_other}
use Rattle.octets.specs.Standard.{rules}
use Rattle.markup.proofs.put_escape.Goals as goal

pub put_text-requires : goal.put_text-requires
put_text-requires c = search (rules, room_ampersand)

pub put_text-requires-in-60 : goal.put_text-requires-in-60
put_text-requires-in-60 c = search (rules, room_less)

pub put_text-requires-in-62 : goal.put_text-requires-in-62
put_text-requires-in-62 c = search (rules, room_greater)

pub put_text-requires-in-34 : goal.put_text-requires-in-34
put_text-requires-in-34 c = search (rules, room_quote)

pub put_text-requires-in-39 : goal.put_text-requires-in-39
put_text-requires-in-39 c = search (rules, room_apostrophe)

pub put_byte-requires : goal.put_byte-requires
put_byte-requires c = search (rules, room_other)

pub returns-in-38 : goal.returns-in-38
returns-in-38 c = search (rules, wrote_ampersand)

pub returns-in-60 : goal.returns-in-60
returns-in-60 c = search (rules, wrote_less)

pub returns-in-62 : goal.returns-in-62
returns-in-62 c = search (rules, wrote_greater)

pub returns-in-34 : goal.returns-in-34
returns-in-34 c = search (rules, wrote_quote)

pub returns-in-39 : goal.returns-in-39
returns-in-39 c = search (rules, wrote_apostrophe)

pub returns-in_default : goal.returns-in_default
returns-in_default c = search (rules, wrote_other)
