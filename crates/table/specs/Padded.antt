-- What the order of public identities asks of the blocks that it compares, and what every sound record has: zeros past the name.
use Rattle.std.specs.Prelude.{◌≡◌, ℕ, ◌+◌, ◌-◌, ◌<◌, ◌≤◌, true, List}
use Rattle.octets.specs.Run.{zero_between}
use Rattle.record.specs.Fields.{public_size}
use Rattle.blocks.specs.Blocks.{block_of}

pub record Padded (b : List ℕ) : Type 0 where
  pub size : public_size b ≤ 128
  pub past : zero_between b (16 + public_size b) 144 ≡ true

-- the record before block k, if there is one
pub record Before (t : List ℕ) (k : ℕ) : Type 0 where
  pub padded : 1 < k → Padded (block_of t (k - 1))
