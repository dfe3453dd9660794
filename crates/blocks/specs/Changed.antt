-- A file of blocks with some of them changed, and every other as it was.
use Rattle.std.specs.Prelude.{ℕ, ◌+◌, ◌*◌, Bool, false, cond, ◌||◌, List, [], ◌∷◌, ◌++◌, take, drop, ◌==◌}
use Rattle.blocks.specs.Blocks.{block_of, table_of}

-- the choice of the blocks with these numbers: a choice is a test of block numbers
unfoldable pub is_one : List ℕ → ℕ → Bool
is_one [] j = false
is_one (k ∷ ks) j = j == k || is_one ks j

-- block k after a change of the chosen ones
unfoldable pub changed_at : List ℕ → (ℕ → Bool) → (List ℕ → List ℕ) → ℕ → List ℕ
changed_at t chosen change k = cond (chosen k) (change (block_of t k)) (block_of t k)

-- the first n blocks after it
unfoldable pub changed_all : List ℕ → ℕ → (ℕ → Bool) → (List ℕ → List ℕ) → List ℕ
changed_all t n chosen change = table_of (changed_at t chosen change) n

-- with block k changed
unfoldable pub changed_in : List ℕ → ℕ → (List ℕ → List ℕ) → List ℕ
changed_in t k change = take (512 * k) t ++ (change (block_of t k) ++ drop (512 * k + 512) t)
