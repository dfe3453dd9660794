-- Two names compared eight bytes at a time: the turns of the loops.
use Rattle.octets.specs.Standard.{ℕ, ◌+◌, ◌-◌, ◌*◌, ◌<◌, ◌≤◌, min, Bool, true, false, ◌≡◌, refl, sym, ap, ◌∙◌, List, [], ◌∷◌, arith, eqb, length}
use Rattle.octets.specs.Standard.{eqb-true, eqb-false, eq-eqb, ltb, ltb-true, ltb-false, get_or, cond, true≢false, ext_get_or}
use Rattle.std.proofs.lemmas.Slice.Eq.{bytes_eq-Decides}
use Rattle.std.specs.Cmp.Lexicographic.{pointwise, slice_cmp}
use Rattle.std.specs.Ordering.{nat_cmp, ordering_then}
use Rattle.std.specs.Prelude.{nat_eq}
use Rattle.std.specs.declared.cmp.Ordering.{Ordering}
use Rattle.std.specs.declared.cmp.Ordering.TheVariants.{Less, Equal, Greater}
use Rattle.octets.specs.All.{all_below}
use Rattle.octets.specs.Name.{order_of, alike_at, alike_from, by_number}
use Rattle.octets.specs.Number.{be64_at}
use Rattle.octets.proofs.All.{all_none, all_at, all_stretch, all_true}
use Rattle.octets.proofs.Numbers.{Bytes, be64_alike}
use Rattle.octets.proofs.Orders.{eight_alike, eight_differ, alike_last}

module _ (s t : List ℕ) (k a b : ℕ) (x : a ≡ be64_at s (8 * k)) (y : b ≡ be64_at t (8 * k)) where
  -- where they are the same, and where they differ
  pub eights_more : Bytes s → Bytes t → true ≡ all_below (alike_at s t) (8 * k) → a ≡ b → true ≡ all_below (alike_at s t) (8 * (k + 1))
  eights_more bs bt e f = let n : 8 * (k + 1) ≡ 8 * k + 8 = omega arith in rw n (eight_alike s t (8 * k) bs bt e a b x y f)

  pub eights_order : (to : ℕ) {r : Ordering} → Bytes s → Bytes t → true ≡ all_below (alike_at s t) (8 * k) → 8 * to ≤ length s → 8 * to ≤ length t → k < to
      → (a ≡ b → ⊥) → r ≡ by_number a b → r ≡ order_of s t
  eights_order to bs bt e g h l d f = eight_differ s t (8 * k) bs bt e (min (length s) (length t)) a b refl (omega arith) (omega arith) x y d f

module _ (s t : List ℕ) (i a b : ℕ) (x : a ≡ be64_at s i) (y : b ≡ be64_at t i) where
  pub eights_other : (m : ℕ) → i + 8 ≤ m → (a ≡ b → ⊥) → false ≡ all_below (alike_at s t) m
  unfolding alike_at
  eights_other m l d = go (all_below (alike_at s t) m) refl
    where
      go : (z : Bool) → all_below (alike_at s t) m ≡ z → false ≡ z
      go false e = refl
      go true e = absurd (d (x ∙ be64_alike s t i i (λ j h. eqb-true _ _ (all_at (alike_at s t) m e (i + j) (omega arith))) ∙ sym y))

-- the first eight
pub eights_front : (s t : List ℕ) {a b : ℕ} → Bytes s → Bytes t → a ≡ be64_at s 0 → b ≡ be64_at t 0 → a ≡ b → true ≡ all_below (alike_at s t) (8 * 1)
eights_front s t {a} {b} bs bt x y e = eight_alike s t 0 bs bt (all_none (alike_at s t)) a b x y e

pub eights_apart : (s t : List ℕ) {n a b : ℕ} → n ≡ length s → 8 ≤ n → a ≡ be64_at s 0 → b ≡ be64_at t 0 → (a ≡ b → ⊥)
    → false ≡ all_below (alike_at s t) (length s)
eights_apart s t {n} {a} {b} l h x y d = eights_other s t 0 a b x y (length s) (omega arith) d

-- four eights at a time
pub eights_passed : (s t : List ℕ) (k : ℕ) {x : Bool} → true ≡ all_below (alike_at s t) (8 * k) → x ≡ all_below (alike_from s t (8 * k)) 32 → x ≡ true
    → true ≡ all_below (alike_at s t) (8 * (k + 4))
unfolding alike_from
eights_passed s t k e f g =
    let n : 8 * (k + 4) ≡ 8 * k + 32 = omega arith in
    rw n (sym g ∙ f ∙ all_stretch (alike_at s t) (alike_from s t (8 * k)) (8 * k) (λ j. refl) 32 e)

-- what differs below one bound differs below a larger
pub differ_more : (s t : List ℕ) (m n : ℕ) → m ≤ n → false ≡ all_below (alike_at s t) m → false ≡ all_below (alike_at s t) n
unfolding alike_at
differ_more s t m n l e = go (all_below (alike_at s t) n) refl
  where
    go : (z : Bool) → all_below (alike_at s t) n ≡ z → false ≡ z
    go false f = refl
    go true f = absurd (true≢false (sym (all_true (alike_at s t) m (λ i h. all_at (alike_at s t) n f i (omega arith))) ∙ sym e))

-- the last eight, of which what was compared is alike
pub eights_last : (s t : List ℕ) (i a b : ℕ) → Bytes s → Bytes t → true ≡ all_below (alike_at s t) i → 8 ≤ length s → length s - i < 8
    → a ≡ be64_at s (length s - 8) → b ≡ be64_at t (length s - 8) → eqb a b ≡ all_below (alike_at s t) (length s)
unfolding alike_at
eights_last s t i a b bs bt e h l x y = go (eqb a b) (all_below (alike_at s t) (length s)) refl refl
  where
    go : (u v : Bool) → eqb a b ≡ u → all_below (alike_at s t) (length s) ≡ v → u ≡ v
    go true v f g =
        let m : length s - 8 + 8 ≡ length s = omega arith in
        eight_alike s t (length s - 8) bs bt (alike_last s t i (length s) e l) a b x y (eqb-true a b f) ∙ ap (all_below (alike_at s t)) m ∙ g
    go false false f g = refl
    go false true f g =
        absurd
        (eqb-false a b f
        (x ∙ be64_alike s t (length s - 8) (length s - 8) (λ j o. eqb-true _ _ (all_at (alike_at s t) (length s) g (length s - 8 + j) (omega arith))) ∙ sym y))

-- the library's comparisons
pub cmp_order : (s t : List ℕ) → slice_cmp nat_cmp s t ≡ order_of s t
unfolding order_of
cmp_order [] [] = refl
cmp_order [] (y ∷ t) = refl
cmp_order (x ∷ s) [] = refl
cmp_order (x ∷ s) (y ∷ t) = go (ltb x y) (ltb y x) (eqb x y) refl refl refl (cmp_order s t)
  where
    go : (a b c : Bool) → ltb x y ≡ a → ltb y x ≡ b → eqb x y ≡ c → slice_cmp nat_cmp s t ≡ order_of s t
        → ordering_then (cond a Less (cond c Equal Greater)) (slice_cmp nat_cmp s t) ≡ cond a Less (cond b Greater (order_of s t))
    go true b c e f g i = refl
    go false true true e f g i = let l : y < x = ltb-true y x f in absurd (omega (arith, eqb-true x y g))
    go false true false e f g i = refl
    go false false true e f g i = i
    go false false false e f g i = absurd (eqb-false x y g (omega (arith, ltb-false x y e, ltb-false y x f)))

pub bytes_alike : (s t : List ℕ) → length s ≡ length t → pointwise nat_eq s t ≡ all_below (alike_at s t) (length s)
unfolding alike_at
bytes_alike s t e = go (pointwise nat_eq s t) (all_below (alike_at s t) (length s)) refl refl
  where
    go : (u v : Bool) → pointwise nat_eq s t ≡ u → all_below (alike_at s t) (length s) ≡ v → u ≡ v
    go true v f g =
        let k : s ≡ t = (bytes_eq-Decides s t).0 f in
        sym (all_true (alike_at s t) (length s) (λ i l. eq-eqb _ _ (ap (λ (x : List ℕ). get_or x i 0) k))) ∙ g
    go false false f g = refl
    go false true f g =
        let k : s ≡ t = ext_get_or 0 s t e (λ i l. eqb-true _ _ (all_at (alike_at s t) (length s) g i l)) in
        sym f ∙ (bytes_eq-Decides s t).1 k
