-- The part of the profile file among what an answer takes.
use Rattle.std.specs.Prelude.{ℕ, List}
use Rattle.record.specs.Fields.{profile_of}
use Rattle.blocks.specs.Blocks.{of_block}

-- the user data of block k, nothing of block 0
abbrev pub profile_at : List ℕ → List ℕ → ℕ → List ℕ
profile_at t file k = of_block (λ (b : List ℕ). profile_of b file) t k
