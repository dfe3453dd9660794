-- How many names stand above one: fewer above a later one, so that rising names leave enough for those that follow.
use Rattle.octets.specs.Standard.{ℕ, zero, suc, ◌+◌, ◌-◌, ◌*◌, ◌<◌, ◌≤◌, Bool, true, false, cond, ◌≡◌, refl, arith, leb, ltb, ltb-true}
use Rattle.octets.specs.Standard.{ltb-false, leb-true, List, [], ◌∷◌, length}
use native.Mathlib.Nat.{mul-le-mul_right, suc-mul}
use Rattle.octets.specs.Name.{order_of}
use Rattle.std.specs.declared.cmp.Ordering.TheVariants.{Less, Greater}
use Rattle.octets.proofs.All.{and_left, and_right}
use Rattle.octets.proofs.Names.{never}
use Rattle.quoting.specs.Quoted.{is_listed, listable}
use Rattle.importing.specs.Above.{strings_of, above}

pub strings_some : (n : ℕ) → 1 ≤ strings_of n
unfolding strings_of
strings_some zero = omega arith
strings_some (suc n) = omega arith

-- a product is at least as great where a factor is
times : (a b s : ℕ) → a ≤ b → a * s ≤ b * s
times a b s h = mul-le-mul_right s h

pub least : (x : ℕ) (s : List ℕ) → listable (x ∷ s) ≡ true → (32 ≤ x) × (x ≤ 126)
unfolding listable
least x s e =
    let l : is_listed x ≡ true = and_left (is_listed x) (listable s) e in
    (leb-true 32 x (and_left (leb 32 x) (leb x 126) l), leb-true x 126 (and_right (leb 32 x) (leb x 126) l))

pub others : (x : ℕ) (s : List ℕ) → listable (x ∷ s) ≡ true → listable s ≡ true
unfolding listable
others x s e = and_right (is_listed x) (listable s) e

above_lt : (n : ℕ) (s : List ℕ) → listable s ≡ true → above n s < strings_of n
unfolding above strings_of
above_lt zero [] e = omega arith
above_lt (suc n) [] e = omega arith
above_lt zero (x ∷ s) e = omega arith
above_lt (suc n) (x ∷ s) e =
    let l = least x s e in
    omega (arith, times (126 - x) 94 (strings_of n) (omega (arith, l.0)), above_lt n s (others x s e))

pub above_less : (n : ℕ) (s t : List ℕ) → listable s ≡ true → listable t ≡ true → length s ≤ n → length t ≤ n → order_of s t ≡ Less → above n t < above n s
unfolding above order_of strings_of
above_less n [] [] e f h l o = never cc
above_less n (x ∷ s) [] e f h l o = never cc
above_less zero [] (y ∷ t) e f h l o = absurd (omega arith)
above_less (suc n) [] (y ∷ t) e f h l o =
    let m = least y t f in
    omega (arith, times (126 - y) 94 (strings_of n) (omega (arith, m.0)), above_lt n t (others y t f))
above_less zero (x ∷ s) (y ∷ t) e f h l o = absurd (omega arith)
above_less (suc n) (x ∷ s) (y ∷ t) e f h l o = go (ltb x y) (ltb y x) refl refl o (above_less n s t (others x s e) (others y t f) (omega arith) (omega arith))
  where
    go : (a b : Bool) → ltb x y ≡ a → ltb y x ≡ b → cond a Less (cond b Greater (order_of s t)) ≡ Less → (order_of s t ≡ Less → above n t < above n s)
        → (126 - y) * strings_of n + above n t < (126 - x) * strings_of n + above n s
    go true b p q k r =
        let m : x < y = ltb-true x y p in
        let w = least y t f in
        let j : suc (126 - y) ≤ 126 - x = omega (arith, w.1) in
        omega (arith, times (suc (126 - y)) (126 - x) (strings_of n) j, above_lt n t (others y t f), suc-mul (126 - y) (strings_of n))
    go false true p q k r = never cc
    go false false p q k r =
        let m : x ≡ y = omega (arith, ltb-false x y p, ltb-false y x q) in
        rw m (omega (arith, r k))
