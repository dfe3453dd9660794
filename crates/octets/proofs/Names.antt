-- Laws of names: alike is equal, and the order is strict and passes on.
use Rattle.octets.specs.Standard.{ℕ, zero, suc, ◌+◌, ◌*◌, ◌<◌, ◌≤◌, Bool, true, false, cond, ◌≡◌, refl, sym, ◌∙◌, ◌⊎◌, inl, inr, List, [], ◌∷◌}
use Rattle.octets.specs.Standard.{arith, bit_or, bit_xor, xor_self, xor_add_and, and_le_l, and_le_r, eqb, ltb, length, get_or, ext_get_or, lt-ltb}
use Rattle.octets.specs.Standard.{le-ltb, ltb-true, ltb-false, eqb-true, eqb-false, eq-eqb, ne_eqb}
use Rattle.octets.specs.All.{all_below}
use Rattle.octets.specs.Name.{order_of, alike_at, alike_from, same}
use Rattle.octets.specs.Number.{le32_at}
use Rattle.std.specs.declared.cmp.Ordering.TheVariants.{Less, Equal, Greater}
use Rattle.octets.proofs.All.{and_left, and_right, all_at, all_true, all_join}
use Rattle.octets.proofs.Numbers.{Bytes}
use Rattle.octets.proofs.Runs.{or_zero}

pub same_eq : (s t : List ℕ) → same s t ≡ true → s ≡ t
unfolding same alike_at
same_eq s t e =
    ext_get_or 0 s t (eqb-true _ _ (and_left (eqb (length s) (length t)) _ e))
    (λ i h. eqb-true _ _ (all_at (alike_at s t) (length s) (and_right (eqb (length s) (length t)) _ e) i h))

pub same_refl : (s : List ℕ) → same s s ≡ true
unfolding same alike_at
same_refl s = rw (eq-eqb (length s) (length s) refl) (all_true (alike_at s s) (length s) (λ i h. eq-eqb (get_or s i 0) (get_or s i 0) refl))

pub same_yes : (s t : List ℕ) → s ≡ t → same s t ≡ true
same_yes s t e = rw e (same_refl t)

pub same_no : (s t : List ℕ) → (s ≡ t → ⊥) → same s t ≡ false
same_no s t h = go (same s t) refl
  where
    go : (x : Bool) → same s t ≡ x → same s t ≡ false
    go true e = absurd (h (same_eq s t e))
    go false e = e

-- By the lengths, and where those are the same by the bytes.
pub same_lengths : (s t : List ℕ) → (length s ≡ length t → ⊥) → false ≡ same s t
unfolding same
same_lengths s t h = rw (ne_eqb _ _ h)

pub same_within : (s t : List ℕ) {x : Bool} → length s ≡ length t → x ≡ all_below (alike_at s t) (length s) → x ≡ same s t
unfolding same
same_within s t e f = rw (eq-eqb _ _ e) f

-- The turns of the loop over words: none differs so far, one more, and all.
xor_none : (a b : ℕ) → eqb (bit_xor a b) 0 ≡ eqb a b
xor_none a b = go (eqb a b) refl
  where
    go : (x : Bool) → eqb a b ≡ x → eqb (bit_xor a b) 0 ≡ x
    go true e = eq-eqb (bit_xor a b) 0 (rw (eqb-true a b e) (xor_self b))
    go false e = ne_eqb (bit_xor a b) 0 (λ z. eqb-false a b e (omega (arith, xor_add_and a b, and_le_l a b, and_le_r a b)))

word_alike : (s t : List ℕ) (i : ℕ) → Bytes s → Bytes t → eqb (le32_at s i) (le32_at t i) ≡ all_below (alike_from s t i) 4
unfolding alike_from alike_at le32_at
word_alike s t i g h = go (eqb (le32_at s i) (le32_at t i)) (all_below (alike_from s t i) 4) refl refl
  where
    byte : all_below (alike_from s t i) 4 ≡ true → (j : ℕ) → j < 4 → get_or s (i + j) 0 ≡ get_or t (i + j) 0
    byte f j l = eqb-true (get_or s (i + j) 0) (get_or t (i + j) 0) (all_at (alike_from s t i) 4 f j l)

    each : le32_at s i ≡ le32_at t i → (j : ℕ) → j < 4 → get_or s (i + j) 0 ≡ get_or t (i + j) 0
    each e zero l = let k : i + 0 ≡ i = omega arith in rw k (omega (arith, g i, g (i + 1), g (i + 2), g (i + 3), h i, h (i + 1), h (i + 2), h (i + 3)))
    each e (suc zero) l = omega (arith, g i, g (i + 1), g (i + 2), g (i + 3), h i, h (i + 1), h (i + 2), h (i + 3))
    each e (suc (suc zero)) l = omega (arith, g i, g (i + 1), g (i + 2), g (i + 3), h i, h (i + 1), h (i + 2), h (i + 3))
    each e (suc (suc (suc zero))) l = omega (arith, g i, g (i + 1), g (i + 2), g (i + 3), h i, h (i + 1), h (i + 2), h (i + 3))
    each e (suc (suc (suc (suc j)))) l = absurd (omega arith)

    go : (x y : Bool) → eqb (le32_at s i) (le32_at t i) ≡ x → all_below (alike_from s t i) 4 ≡ y → eqb (le32_at s i) (le32_at t i) ≡ y
    go true y e f =
        e ∙ sym (all_true (alike_from s t i) 4 (λ j l. eq-eqb (get_or s (i + j) 0) (get_or t (i + j) 0) (each (eqb-true _ _ e) j l))) ∙ f
    go false false e f = e
    go false true e f =
        let k : i + 0 ≡ i = omega arith in
        absurd
        (eqb-false (le32_at s i) (le32_at t i) e
        (omega (arith, rw k at (byte f 0 (omega arith)), byte f 1 (omega arith), byte f 2 (omega arith), byte f 3 (omega arith))))

module _ (s t : List ℕ) (i : ℕ) where
  pub words_none : eqb 0 0 ≡ all_below (alike_from s t i) (4 * 0)
  unfolding all_below
  words_none = refl

  pub words_more : (j bits a b : ℕ) → Bytes s → Bytes t → eqb bits 0 ≡ all_below (alike_from s t i) (4 * j) → a ≡ le32_at s (i + 4 * j) → b ≡ le32_at t (i + 4 * j)
      → eqb (bit_or bits (bit_xor a b)) 0 ≡ all_below (alike_from s t i) (4 * (j + 1))
  unfolding alike_from
  words_more j bits a b g h e ea eb =
      let n : 4 * (j + 1) ≡ 4 * j + 4 = omega arith in
      let k = all_join (alike_from s t i) (alike_from s t (i + 4 * j)) (4 * j) (λ m. let p : i + 4 * j + m ≡ i + (4 * j + m) = omega arith in rw p) 4 in
      rw (n, k, or_zero bits (bit_xor a b), xor_none a b, e, ea, eb, word_alike s t (i + 4 * j) g h)

  pub words_all : (j bits : ℕ) → j ≤ 8 → 8 ≤ j → eqb bits 0 ≡ all_below (alike_from s t i) (4 * j) → eqb bits 0 ≡ all_below (alike_from s t i) 32
  words_all j bits a b e = let k : 4 * j ≡ 32 = omega arith in rw (← k) e

-- The order.
less_head : (x y : ℕ) (s t : List ℕ) → x < y → order_of (x ∷ s) (y ∷ t) ≡ Less
unfolding order_of
less_head x y s t h = rw (lt-ltb _ _ h)

less_tail : (x y : ℕ) (s t : List ℕ) → x ≡ y → order_of s t ≡ Less → order_of (x ∷ s) (y ∷ t) ≡ Less
unfolding order_of
less_tail x y s t e h =
    let a : y ≤ x = omega arith in
    let b : x ≤ y = omega arith in
    rw (le-ltb _ _ a, le-ltb _ _ b) h

pub never : {A : Type 0} → ◌≡◌ {A = ℕ} 0 1 → A
never e = absurd (omega arith)

less_cases : (x y : ℕ) (s t : List ℕ) → order_of (x ∷ s) (y ∷ t) ≡ Less → (x < y) ⊎ ((x ≡ y) × (order_of s t ≡ Less))
unfolding order_of
less_cases x y s t h = go (ltb x y) (ltb y x) refl refl h
  where
    go : (a b : Bool) → ltb x y ≡ a → ltb y x ≡ b → cond a Less (cond b Greater (order_of s t)) ≡ Less → (x < y) ⊎ ((x ≡ y) × (order_of s t ≡ Less))
    go true b e f k = inl (ltb-true _ _ e)
    go false true e f k = never cc
    go false false e f k = inr (omega (arith, ltb-false x y e, ltb-false y x f), k)

pub order_refl : (s : List ℕ) → order_of s s ≡ Equal
unfolding order_of
order_refl [] = refl
order_refl (x ∷ s) = let a : x ≤ x = omega arith in rw (le-ltb x x a) (order_refl s)

pub order_eq : (s t : List ℕ) → order_of s t ≡ Equal → s ≡ t
unfolding order_of
order_eq [] [] e = refl
order_eq [] (y ∷ t) e = cc
order_eq (x ∷ s) [] e = cc
order_eq (x ∷ s) (y ∷ t) e = go (ltb x y) (ltb y x) refl refl e (order_eq s t)
  where
    go : (a b : Bool) → ltb x y ≡ a → ltb y x ≡ b → cond a Less (cond b Greater (order_of s t)) ≡ Equal → (order_of s t ≡ Equal → s ≡ t) → (x ∷ s) ≡ (y ∷ t)
    go true b e f k i = cc
    go false true e f k i = cc
    go false false e f k i =
        let h : x ≡ y = omega (arith, ltb-false x y e, ltb-false y x f) in
        let r : s ≡ t = i k in
        cc

pub order_flip : (s t : List ℕ) → order_of s t ≡ Greater → order_of t s ≡ Less
unfolding order_of
order_flip [] [] e = cc
order_flip [] (y ∷ t) e = cc
order_flip (x ∷ s) [] e = refl
order_flip (x ∷ s) (y ∷ t) e = go (ltb x y) (ltb y x) refl refl e (order_flip s t)
  where
    go : (a b : Bool) → ltb x y ≡ a → ltb y x ≡ b → cond a Less (cond b Greater (order_of s t)) ≡ Greater → (order_of s t ≡ Greater → order_of t s ≡ Less)
        → order_of (y ∷ t) (x ∷ s) ≡ Less
    go true b e f k i = cc
    go false true e f k i = less_head y x t s (ltb-true _ _ f)
    go false false e f k i = less_tail y x t s (omega (arith, ltb-false x y e, ltb-false y x f)) (i k)

pub order_trans : (s t u : List ℕ) → order_of s t ≡ Less → order_of t u ≡ Less → order_of s u ≡ Less
unfolding order_of
order_trans [] [] u e f = cc
order_trans [] (y ∷ t) [] e f = cc
order_trans [] (y ∷ t) (z ∷ u) e f = refl
order_trans (x ∷ s) [] u e f = cc
order_trans (x ∷ s) (y ∷ t) [] e f = cc
order_trans (x ∷ s) (y ∷ t) (z ∷ u) e f = go (less_cases x y s t e) (less_cases y z t u f) (order_trans s t u)
  where
    go : (x < y) ⊎ ((x ≡ y) × (order_of s t ≡ Less)) → (y < z) ⊎ ((y ≡ z) × (order_of t u ≡ Less))
        → (order_of s t ≡ Less → order_of t u ≡ Less → order_of s u ≡ Less) → order_of (x ∷ s) (z ∷ u) ≡ Less
    go (inl a) (inl b) i = less_head x z s u (omega arith)
    go (inl a) (inr b) i = less_head x z s u (omega (arith, b.0))
    go (inr a) (inl b) i = less_head x z s u (omega (arith, a.0))
    go (inr a) (inr b) i = less_tail x z s u (omega (arith, a.0, b.0)) (i a.1 b.1)

-- A name that comes before or after another is another.
pub less_differs : (s t : List ℕ) → order_of s t ≡ Less → s ≡ t → ⊥
less_differs s t e f = let g : order_of s t ≡ Equal = rw f (order_refl t) in never cc
