-- How many numbers from one on pass a test: a check in two passes, each over what the one before it passed.
use Rattle.std.specs.Prelude.{◌≡◌, ℕ, zero, suc, ◌+◌, Bool, true, cond, List, ◌==◌, nat_le, Result, Ok, Err}
use Rattle.octets.specs.All.{all_below}
use Rattle.record.specs.Fields.{set_of}
use Rattle.blocks.specs.Blocks.{block_of}

-- of the n numbers from k on, those before the first that is not good
unfoldable pub leading : (ℕ → Bool) → ℕ → ℕ → ℕ
leading good zero k = zero
leading good (suc n) k = cond (good k) (suc (leading good n (suc k))) zero

-- record i + 1 is of no set
unfoldable pub setless : List ℕ → ℕ → Bool
setless t i = set_of (block_of t (suc i)) == 0

-- a test that says so of the first m records
pub record Setless (t : List ℕ) (m : ℕ) (none : Bool) : Type 0 where
  pub each : none ≡ true → all_below (setless t) m ≡ true

-- the answer where the first m of all records are sound, and the next one, if there is one, is not
abbrev pub outcome_of : ℕ → ℕ → Result ℕ ℕ
outcome_of count m = cond (nat_le (m + 1) count) (Err (m + 1)) (Ok count)
