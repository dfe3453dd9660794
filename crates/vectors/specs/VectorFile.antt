-- "a third lent file of 0 to 4,096 blocks of 512 bytes with the table's check"
use Rattle.std.specs.Prelude.{ℕ, ◌+◌, ◌*◌, ◌/◌, ◌%◌, Bool, ◌&&◌, cond, ◌≡◌, List, length, eqb, leb, ltb, Result, Ok}
use Rattle.blocks.specs.Blocks.{block_of}
use Rattle.blocks.specs.Blocks.{first_bad}
use Rattle.vectors.specs.VectorBlock.{sound_vector}

-- the pieces of 512 bytes, the last one cut or whole
unfoldable pub pieces_of : List ℕ → ℕ
pieces_of v = length v / 512 + cond (eqb (length v % 512) 0) 0 1

-- piece k is one of 4,096, whole, and a sound vector
unfoldable pub sound_piece : List ℕ → ℕ → Bool
sound_piece v k = ltb k 4096 && leb (512 * k + 512) (length v) && sound_vector (block_of v k)

-- the number of blocks, or the first piece that is bad
unfoldable pub check_vectors : List ℕ → Result ℕ ℕ
check_vectors v = first_bad (sound_piece v) (pieces_of v) (pieces_of v) 0

-- a sound vector file: the check finds so many blocks
pub record SoundVectors (v : List ℕ) : Type 0 where
  pub count : ℕ
  pub checked : check_vectors v ≡ Ok count
