use Rattle.plain_table.proofs.Places.{place_unused, place_used}
use Rattle.octets.specs.Standard.{rules}
use Rattle.plain_table.proofs.header.place_sound.Goals as goal

pub returns-then-n-i : goal.returns-then-n-i
returns-then-n-i c = search (rules, place_unused)

pub returns : goal.returns
returns c = search (rules, place_used)
