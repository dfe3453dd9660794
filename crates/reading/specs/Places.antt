-- Places in a message stand for the AVPs there.
use Rattle.std.specs.Prelude.{ℕ, List, map}
use Rattle.diameter.specs.AvpAt.{part_at}
use Rattle.reading.specs.Rules.{Seen}

-- the AVPs at the places of the kinds
abbrev pub seen_of : List ℕ → List ℕ → Seen
seen_of s places = map (part_at s) places
