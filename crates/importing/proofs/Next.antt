-- The name right above one: where a name is left above, this is the lowest of them, and one fewer is left above it.
use Rattle.octets.specs.Standard.{ℕ, zero, suc, ◌+◌, ◌-◌, ◌*◌, ◌<◌, ◌≤◌, Bool, true, false, cond, ◌≡◌, refl, arith, ltb, ltb-true}
use Rattle.octets.specs.Standard.{ltb-false, lt-ltb, le-ltb, le-leb, List, [], ◌∷◌, length}
use native.Mathlib.Nat.{suc-mul}
use Rattle.octets.specs.Name.{order_of}
use Rattle.std.specs.declared.cmp.Ordering.TheVariants.{Less}
use Rattle.quoting.specs.Quoted.{listable}
use Rattle.importing.specs.Above.{strings_of, above}
use Rattle.importing.proofs.Falling.{strings_some, least, others}

unfoldable pub next : ℕ → List ℕ → List ℕ
next zero s = s
next (suc n) [] = 32 ∷ []
next (suc n) (x ∷ s) = cond (ltb 0 (above n s)) (x ∷ next n s) (suc x ∷ [])

-- a byte that is not the greatest where names are left above and none behind it
not_greatest : (n x : ℕ) (s : List ℕ) → listable (x ∷ s) ≡ true → 0 < above (suc n) (x ∷ s) → above n s ≤ 0 → x < 126
unfolding above
not_greatest n x s e h z = go (ltb x 126) refl
  where
    go : (c : Bool) → ltb x 126 ≡ c → x < 126
    go true f = ltb-true x 126 f
    go false f =
        let q : x ≡ 126 = omega (arith, ltb-false x 126 f, (least x s e).1) in
        let k : 0 < (126 - 126) * strings_of n + above n s = rw q at h in
        absurd (omega arith)

pub next_above : (n : ℕ) (s : List ℕ) → listable s ≡ true → length s ≤ n → 0 < above n s → suc (above n (next n s)) ≡ above n s
unfolding next above strings_of
next_above zero [] e l h = absurd (omega arith)
next_above zero (x ∷ s) e l h = absurd (omega arith)
next_above (suc n) [] e l h = omega (arith, strings_some n)
next_above (suc n) (x ∷ s) e l h = go (ltb 0 (above n s)) refl (next_above n s (others x s e) (omega arith))
  where
    go : (c : Bool) → ltb 0 (above n s) ≡ c → (0 < above n s → suc (above n (next n s)) ≡ above n s)
        → suc (above (suc n) (cond c (x ∷ next n s) (suc x ∷ []))) ≡ (126 - x) * strings_of n + above n s
    go true f r = omega (arith, r (ltb-true 0 (above n s) f))
    go false f r =
        let z : above n s ≤ 0 = ltb-false 0 (above n s) f in
        let b : x < 126 = not_greatest n x s e h z in
        let d : 126 - x ≡ suc (126 - suc x) = omega arith in
        rw d (omega (arith, suc-mul (126 - suc x) (strings_of n), strings_some n))

pub next_less : (n : ℕ) (s : List ℕ) → listable s ≡ true → length s ≤ n → 0 < above n s → order_of s (next n s) ≡ Less
unfolding next order_of above strings_of
next_less zero [] e l h = absurd (omega arith)
next_less zero (x ∷ s) e l h = absurd (omega arith)
next_less (suc n) [] e l h = refl
next_less (suc n) (x ∷ s) e l h = go (ltb 0 (above n s)) refl (next_less n s (others x s e) (omega arith))
  where
    go : (c : Bool) → ltb 0 (above n s) ≡ c → (0 < above n s → order_of s (next n s) ≡ Less) → order_of (x ∷ s) (cond c (x ∷ next n s) (suc x ∷ [])) ≡ Less
    go true f r = let b : x ≤ x = omega arith in rw (le-ltb x x b) (r (ltb-true 0 (above n s) f))
    go false f r = let b : x < suc x = omega arith in rw (lt-ltb x (suc x) b)

pub next_listed : (n : ℕ) (s : List ℕ) → listable s ≡ true → length s ≤ n → 0 < above n s → listable (next n s) ≡ true
unfolding next listable
next_listed zero s e l h = e
next_listed (suc n) [] e l h = refl
next_listed (suc n) (x ∷ s) e l h = go (ltb 0 (above n s)) refl (next_listed n s (others x s e) (omega arith))
  where
    go : (c : Bool) → ltb 0 (above n s) ≡ c → (0 < above n s → listable (next n s) ≡ true) → listable (cond c (x ∷ next n s) (suc x ∷ [])) ≡ true
    go true f r = rw (le-leb 32 x (least x s e).0, le-leb x 126 (least x s e).1) (r (ltb-true 0 (above n s) f))
    go false f r =
        let b : x < 126 = not_greatest n x s e h (ltb-false 0 (above n s) f) in
        let a : 32 ≤ suc x = omega (arith, (least x s e).0) in
        let c : suc x ≤ 126 = omega arith in
        rw (le-leb 32 (suc x) a, le-leb (suc x) 126 c)

pub next_length : (n : ℕ) (s : List ℕ) → length s ≤ n → 0 < above n s → (1 ≤ length (next n s)) × (length (next n s) ≤ n)
unfolding next above strings_of
next_length zero [] l h = absurd (omega arith)
next_length zero (x ∷ s) l h = absurd (omega arith)
next_length (suc n) [] l h = (omega arith, omega arith)
next_length (suc n) (x ∷ s) l h = go (ltb 0 (above n s)) refl (next_length n s (omega arith))
  where
    go : (c : Bool) → ltb 0 (above n s) ≡ c → (0 < above n s → (1 ≤ length (next n s)) × (length (next n s) ≤ n))
        → (1 ≤ length (cond c (x ∷ next n s) (suc x ∷ []))) × (length (cond c (x ∷ next n s) (suc x ∷ [])) ≤ suc n)
    go true f r = let p = r (ltb-true 0 (above n s) f) in (omega arith, omega (arith, p.1))
    go false f r = (omega arith, omega arith)
