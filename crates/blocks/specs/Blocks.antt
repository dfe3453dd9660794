-- "Blocks of 512 bytes, big-endian": a file of them, block by block, and the first of them that is bad.
use Rattle.std.specs.Prelude.{ℕ, zero, suc, ◌*◌, Bool, cond, List, [], ◌++◌, take, drop, ◌==◌, Result, Ok, Err}

unfoldable pub block_of : List ℕ → ℕ → List ℕ
block_of t k = take 512 (drop (512 * k) t)

-- a table is a function of block numbers
unfoldable pub table_of : (ℕ → List ℕ) → ℕ → List ℕ
table_of f zero = []
table_of f (suc n) = table_of f n ++ f n

-- something of record k, nothing where k is 0
abbrev pub of_block : (List ℕ → List ℕ) → List ℕ → ℕ → List ℕ
of_block f t k = cond (k == 0) [] (f (block_of t k))

-- the first of the n blocks from k on that is not good, and the count where there is none
unfoldable pub first_bad : (ℕ → Bool) → ℕ → ℕ → ℕ → Result ℕ ℕ
first_bad good count zero k = Ok count
first_bad good count (suc n) k = cond (good k) (first_bad good count n (suc k)) (Err k)
