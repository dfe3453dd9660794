-- "LIR.": the questions, and what their answers come to (choices/specs/Choices has the paragraph, row by row).
use Rattle.std.specs.Prelude.{ℕ, List, true, false, ltb, Option, Some, None}
use Rattle.record.specs.Fields.{state_of, bits_of, unregistered_services}
use Rattle.blocks.specs.Blocks.{block_of}
use Rattle.table.specs.Named.{private_at}
use Rattle.lookup.specs.Find.{find_public}
use Rattle.choices.specs.Choices.{location}
use Rattle.choices.specs.declared.Given.{Given}
use Rattle.choices.specs.declared.choice.Sought.{Sought}
use Rattle.lookup.specs.Find.{block_found}
use Rattle.questions.specs.Carried.{carried}

-- of a record's block
unfoldable pub sought_at : List ℕ → Sought
sought_at b = record { known = true; present = ltb 0 (state_of b); services = unregistered_services (bits_of b) }

-- of the record that was found or not
unfoldable pub sought_of : List ℕ → Option ℕ → Sought
sought_of t (Some k) = sought_at (block_of t k)
sought_of t None = record { known = false; present = false; services = false }

-- "the subscription's first server name": that of the asked record's private identity
unfoldable pub locate_found : List ℕ → ℕ → Option ℕ → Given
locate_found t count f = carried t count (private_at t (block_found f)) (block_found f) (location (sought_of t f))

unfoldable pub locate : List ℕ → ℕ → List ℕ → Given
locate t count public = locate_found t count (find_public t count public)
