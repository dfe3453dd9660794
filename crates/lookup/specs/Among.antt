-- Where a record that was found stands.
use Rattle.std.specs.Prelude.{ℕ, ◌≤◌, ◌≡◌, Option, Some}

-- a record that was found is one of so many, and no header
pub record Among (count : ℕ) (f : Option ℕ) : Type 0 where
  pub from : (k : ℕ) → f ≡ Some k → 1 ≤ k
  pub to : (k : ℕ) → f ≡ Some k → k ≤ count
