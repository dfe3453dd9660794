-- A chain of tests joined by `&&` holds exactly if each test holds.
use Rattle.octets.specs.Standard.{ℕ, zero, suc, Bool, true, ◌&&◌, ◌≡◌, refl, List, [], ◌∷◌}
use Rattle.octets.proofs.All.{and_left, and_right}

abbrev pub chain : Bool → List Bool → Bool
chain a [] = a
chain a (b ∷ bs) = chain (a && b) bs

-- test i of a list, counted from 0
abbrev pub test : List Bool → ℕ → Bool
test [] i = true
test (a ∷ bs) zero = a
test (a ∷ bs) (suc i) = test bs i

pub chain_says : (a : Bool) (bs : List Bool) → chain a bs ≡ true → (i : ℕ) → test (a ∷ bs) i ≡ true
chain_says a [] e zero = e
chain_says a [] e (suc i) = refl
chain_says a (b ∷ bs) e zero = and_left a b (chain_says (a && b) bs e 0)
chain_says a (b ∷ bs) e (suc zero) = and_right a b (chain_says (a && b) bs e 0)
chain_says a (b ∷ bs) e (suc (suc i)) = chain_says (a && b) bs e (suc i)

infixl 35 ◌also◌
pub ◌also◌ : {a b : Bool} → a ≡ true → b ≡ true → (a && b) ≡ true
e also f = rw (e, f)
