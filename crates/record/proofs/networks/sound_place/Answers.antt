use Rattle.record.proofs.Places.{place_used, place_unused}
use Rattle.octets.specs.Standard.{rules}
use Rattle.record.proofs.networks.sound_place.Goals as goal

pub returns-then-i-n : goal.returns-then-i-n
returns-then-i-n c = search (rules, place_used)

pub returns-else-i-n : goal.returns-else-i-n
returns-else-i-n c = search (rules, place_unused)
