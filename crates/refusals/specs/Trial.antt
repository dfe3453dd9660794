-- Refusals are trials: when one holds, its number, what it returns besides. "Tried in this order."
use Rattle.std.specs.Prelude.{ℕ, List, [], ◌∷◌, Bool, false, cond, ◌||◌}

pub record Trial : Type 0 where
  pub holds : Bool
  pub number : ℕ
  pub besides : ℕ

-- the first that holds is given, and if none does what is otherwise
unfoldable pub tried : {X : Type 0} → (Trial → X) → X → List Trial → X
tried give otherwise [] = otherwise
tried give otherwise (r ∷ rs) = cond r.holds (give r) (tried give otherwise rs)

-- one of them holds
unfoldable pub any_holds : List Trial → Bool
any_holds [] = false
any_holds (r ∷ rs) = r.holds || any_holds rs
