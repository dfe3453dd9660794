-- A rule that a SAR's records keep, as a test of a record's block.
use Rattle.std.specs.Prelude.{ℕ, Bool, List, Option, Some, None}
use Rattle.blocks.specs.Blocks.{block_of}

-- of block k; of a record that was found or not: an identity that is unknown keeps it or not
unfoldable pub kept_at : List ℕ → (List ℕ → Bool) → ℕ → Bool
kept_at t p k = p (block_of t k)

unfoldable pub kept_by : List ℕ → (List ℕ → Bool) → Bool → Option ℕ → Bool
kept_by t p unknown (Some k) = p (block_of t k)
kept_by t p unknown None = unknown
