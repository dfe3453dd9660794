-- What the choice of vectors goes by: one block more; how many there are; block numbers that rise; what can be sent.
use Rattle.std.specs.Prelude.{ℕ, zero, suc, ◌+◌, ◌*◌, ◌≤◌, ◌<◌, Bool, cond, ◌≡◌, List, [], ◌∷◌, length, get_or, set}
use Rattle.blocks.specs.Blocks.{block_of}
use Rattle.vectors.specs.VectorBlock.{vector_of}
use Rattle.vectors.specs.declared.choice.Sent.{Sent}

-- one block more
unfoldable pub sent_also : Sent → ℕ → Sent
sent_also s k = record { blocks = set s.blocks s.count k; count = s.count + 1 }

-- how many of the n numbers from k on a test holds of
unfoldable pub count_from : (ℕ → Bool) → ℕ → ℕ → ℕ
count_from p zero k = 0
count_from p (suc n) k = cond (p k) (suc (count_from p n (suc k))) (count_from p n (suc k))

-- numbers that rise from a bound on: no two of them are equal
abbrev pub Rising : ℕ → List ℕ → Type 0
Rising from [] = Unit
Rising from (k ∷ ks) = (from < suc k) × Rising (suc k) ks

-- what can be sent: at most 16 blocks of the file, each with an XRES that has room
pub record Sendable (v : List ℕ) (s : Sent) : Type 0 where
  pub few : s.count ≤ 16
  pub room : length s.blocks ≡ 16
  pub within : (i : ℕ) → i < s.count → 512 * get_or s.blocks i 0 + 512 ≤ length v
  pub short : (i : ℕ) → i < s.count → (vector_of (block_of v (get_or s.blocks i 0))).xres ≤ 16
