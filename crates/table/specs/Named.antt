-- The identities of block k.
use Rattle.std.specs.Prelude.{ℕ, List}
use Rattle.record.specs.Fields.{public_of, private_of}
use Rattle.blocks.specs.Blocks.{block_of}

unfoldable pub public_at : List ℕ → ℕ → List ℕ
public_at t k = public_of (block_of t k)

unfoldable pub private_at : List ℕ → ℕ → List ℕ
private_at t k = private_of (block_of t k)
