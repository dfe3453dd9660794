-- The table after an effect: a change of the chosen records' blocks, and every other block as it was.
use Rattle.std.specs.Prelude.{ℕ, zero, suc, ◌+◌, Bool, false, ◌||◌, cond, List, [], ◌∷◌, eqb}
use Rattle.octets.specs.Name.{same}
use Rattle.record.specs.Sets.{same_set}
use Rattle.blocks.specs.Blocks.{block_of}
use Rattle.blocks.specs.Changed.{changed_all}

-- a choice is a test of block numbers, false of 0
unfoldable pub after_of : List ℕ → ℕ → (ℕ → Bool) → (List ℕ → List ℕ) → List ℕ
after_of t count chosen change = changed_all t (suc count) chosen change

-- 02 [6]: "Every effect of a SAR or an authentication request reaches the whole set": block j is one of the blocks ks, or of the set of one
unfoldable pub reaches : List ℕ → List ℕ → ℕ → Bool
reaches t [] j = false
reaches t (k ∷ ks) j = eqb j k || same_set (block_of t k) (block_of t j) || reaches t ks j

-- 1 if two pieces have other bytes, else 0; how many of the first n records have other bytes in y than in x
unfoldable pub differ : List ℕ → List ℕ → ℕ
differ x y = cond (same x y) 0 1

unfoldable pub altered_up_to : List ℕ → List ℕ → ℕ → ℕ
altered_up_to x y zero = 0
altered_up_to x y (suc n) = altered_up_to x y n + differ (block_of x (suc n)) (block_of y (suc n))
