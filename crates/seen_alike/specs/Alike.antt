-- Tables whose blocks agree in every byte that a request can see: 2 to 407, the last of them a record's set number. Kind and edition stand before, and no
-- request reads what stands after.
use Rattle.std.specs.Prelude.{ℕ, ◌<◌, ◌≤◌, ◌≡◌, List, length, get_or}
use Rattle.blocks.specs.Blocks.{block_of}

-- two blocks
pub record Alike (b c : List ℕ) : Type 0 where
  pub whole : length b ≡ 512
  pub other_whole : length c ≡ 512
  pub bytes : (i : ℕ) → 2 ≤ i → i < 408 → get_or b i 0 ≡ get_or c i 0

-- two tables of so many records, the header too
pub record AlikeTables (t u : List ℕ) (count : ℕ) : Type 0 where
  pub blocks : (k : ℕ) → k ≤ count → Alike (block_of t k) (block_of u k)
