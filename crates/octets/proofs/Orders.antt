-- The order of two names that are alike before a place, by what stands there: the turns of the loop that compares.
use Rattle.octets.specs.Standard.{ℕ, zero, suc, ◌+◌, ◌-◌, ◌<◌, ◌≤◌, min, Bool, true, false, cond, ◌≡◌, refl, sym, ◌∙◌, List, arith}
use Rattle.octets.specs.Standard.{add-one, ltb, length, get_or, drop, drop_of_length-le, drop-cons, lt-ltb, le-ltb, ltb-true, ltb-false, eqb-true}
use Rattle.octets.specs.Standard.{eq-eqb}
use Rattle.octets.specs.All.{all_below}
use Rattle.octets.specs.Name.{order_of, alike_at, by_number, by_length}
use Rattle.std.specs.declared.cmp.Ordering.{Ordering}
use Rattle.std.specs.declared.cmp.Ordering.TheVariants.{Less, Equal, Greater}
use Rattle.octets.specs.Number.{be64_at}
use Rattle.octets.proofs.All.{and_left, and_right, all_at, all_true}
use Rattle.octets.proofs.Numbers.{Bytes, be_at, be64_is}

-- A byte that is the same is passed over.
order_pass : (s t : List ℕ) (i : ℕ) → i < length s → i < length t → get_or s i 0 ≡ get_or t i 0
    → order_of (drop i s) (drop i t) ≡ order_of (drop (i + 1) s) (drop (i + 1) t)
unfolding order_of
order_pass s t i a b e =
    let g : get_or t i 0 ≤ get_or s i 0 = omega arith in
    let h : get_or s i 0 ≤ get_or t i 0 = omega arith in
    rw (add-one, drop-cons s i 0 a, drop-cons t i 0 b, le-ltb _ _ g, le-ltb _ _ h)

module _ (s t : List ℕ) (i : ℕ) (alike : order_of s t ≡ order_of (drop i s) (drop i t)) where
  pub order_less : i < length s → i < length t → get_or s i 0 < get_or t i 0 → Less ≡ order_of s t
  unfolding order_of
  order_less a b h = rw (alike, drop-cons s i 0 a, drop-cons t i 0 b, lt-ltb _ _ h)

  pub order_greater : i < length s → i < length t → get_or t i 0 < get_or s i 0 → Greater ≡ order_of s t
  unfolding order_of
  order_greater a b h =
      let g : get_or t i 0 ≤ get_or s i 0 = omega arith in
      rw (alike, drop-cons s i 0 a, drop-cons t i 0 b, le-ltb _ _ g, lt-ltb _ _ h)

  pub order_past : i < length s → length t ≤ i → Greater ≡ order_of s t
  unfolding order_of
  order_past a b = rw (alike, drop-cons s i 0 a, drop_of_length-le t b)

  pub order_prefix : length s ≤ i → i < length t → Less ≡ order_of s t
  unfolding order_of
  order_prefix a b = rw (alike, drop_of_length-le s a, drop-cons t i 0 b)

  pub order_end : length s ≤ i → length t ≤ i → Equal ≡ order_of s t
  unfolding order_of
  order_end a b = rw (alike, drop_of_length-le s a, drop_of_length-le t b)

module _ (s t : List ℕ) (i n : ℕ) (alike : order_of s t ≡ order_of (drop i s) (drop i t)) (least : n ≡ min (length s) (length t)) where
  module _ (a b : ℕ) (within : i < n) (x : a ≡ get_or s i 0) (y : b ≡ get_or t i 0) where
    pub order_equal : a ≡ b → order_of s t ≡ order_of (drop (i + 1) s) (drop (i + 1) t)
    order_equal e = alike ∙ order_pass s t i (omega arith) (omega arith) (sym x ∙ e ∙ y)

    pub order_differ : {r : Ordering} → (a ≡ b → ⊥) → r ≡ by_number a b → r ≡ order_of s t
    order_differ {r} d e = go (ltb a b) refl
      where
        go : (z : Bool) → ltb a b ≡ z → r ≡ order_of s t
        go true f = let l : a < b = ltb-true _ _ f in e ∙ rw f (order_less s t i alike (omega arith) (omega arith) (omega arith))
        go false f = let l : b ≤ a = ltb-false _ _ f in e ∙ rw f (order_greater s t i alike (omega arith) (omega arith) (omega arith))

  pub order_lengths : {r : Ordering} → i ≤ n → n ≤ i → r ≡ by_length (length s) (length t) → r ≡ order_of s t
  order_lengths {r} a b e = go (ltb (length s) (length t)) refl
    where
      more : (x : Bool) → length t ≤ length s → ltb (length t) (length s) ≡ x → cond x Greater Equal ≡ order_of s t
      more true l f = let k : length t < length s = ltb-true _ _ f in order_past s t i alike (omega arith) (omega arith)
      more false l f = let k : length s ≤ length t = ltb-false _ _ f in order_end s t i alike (omega arith) (omega arith)

      go : (x : Bool) → ltb (length s) (length t) ≡ x → r ≡ order_of s t
      go true f = let k : length s < length t = ltb-true _ _ f in e ∙ rw f (order_prefix s t i alike (omega arith) (omega arith))
      go false f = e ∙ rw f (more (ltb (length t) (length s)) (ltb-false _ _ f) refl)

-- Names that are alike before a place.
pub order_alike : (s t : List ℕ) (i : ℕ) → i ≤ length s → i ≤ length t → true ≡ all_below (alike_at s t) i → order_of s t ≡ order_of (drop i s) (drop i t)
unfolding all_below alike_at
order_alike s t zero a b e = refl
order_alike s t (suc i) a b e =
    let f : get_or s i 0 ≡ get_or t i 0 = eqb-true _ _ (and_right (all_below (alike_at s t) i) _ (sym e)) in
    let g = order_alike s t i (omega arith) (omega arith) (sym (and_left (all_below (alike_at s t) i) _ (sym e))) in
    rw (← add-one i) (g ∙ order_pass s t i (omega arith) (omega arith) f)

-- The first k bytes from there on as a number: where the numbers are the same the bytes are, and where they differ they tell the order.
module _ (s t : List ℕ) (i : ℕ) (bs : Bytes s) (bt : Bytes t) (alike : true ≡ all_below (alike_at s t) i) where
  number_alike : (k : ℕ) → be_at k s i ≡ be_at k t i → true ≡ all_below (alike_at s t) (i + k)
  unfolding all_below alike_at
  number_alike zero e = let n : i + 0 ≡ i = omega arith in rw n alike
  number_alike (suc k) e =
      let f : be_at k s i ≡ be_at k t i = omega (arith, bs (i + k), bt (i + k)) in
      let g : get_or s (i + k) 0 ≡ get_or t (i + k) 0 = omega (arith, bs (i + k), bt (i + k)) in
      let n : i + suc k ≡ suc (i + k) = omega arith in
      rw (n, ← number_alike k f, eq-eqb _ _ g)

  number_less : (k : ℕ) → i + k ≤ length s → i + k ≤ length t → be_at k s i < be_at k t i → Less ≡ order_of s t
  number_less zero a b h = absurd (omega arith)
  number_less (suc k) a b h = go (ltb (be_at k s i) (be_at k t i)) refl (number_less k (omega arith) (omega arith))
    where
      go : (x : Bool) → ltb (be_at k s i) (be_at k t i) ≡ x → (be_at k s i < be_at k t i → Less ≡ order_of s t) → Less ≡ order_of s t
      go true f r = r (ltb-true _ _ f)
      go false f r =
          let l : be_at k t i ≤ be_at k s i = ltb-false _ _ f in
          let e : be_at k s i ≡ be_at k t i = omega (arith, bs (i + k), bt (i + k)) in
          let m : get_or s (i + k) 0 < get_or t (i + k) 0 = omega (arith, bs (i + k), bt (i + k)) in
          order_less s t (i + k) (order_alike s t (i + k) (omega arith) (omega arith) (number_alike k e)) (omega arith) (omega arith) m

  number_greater : (k : ℕ) → i + k ≤ length s → i + k ≤ length t → be_at k t i < be_at k s i → Greater ≡ order_of s t
  number_greater zero a b h = absurd (omega arith)
  number_greater (suc k) a b h = go (ltb (be_at k t i) (be_at k s i)) refl (number_greater k (omega arith) (omega arith))
    where
      go : (x : Bool) → ltb (be_at k t i) (be_at k s i) ≡ x → (be_at k t i < be_at k s i → Greater ≡ order_of s t) → Greater ≡ order_of s t
      go true f r = r (ltb-true _ _ f)
      go false f r =
          let l : be_at k s i ≤ be_at k t i = ltb-false _ _ f in
          let e : be_at k s i ≡ be_at k t i = omega (arith, bs (i + k), bt (i + k)) in
          let m : get_or t (i + k) 0 < get_or s (i + k) 0 = omega (arith, bs (i + k), bt (i + k)) in
          order_greater s t (i + k) (order_alike s t (i + k) (omega arith) (omega arith) (number_alike k e)) (omega arith) (omega arith) m

  number_differ : (k a b : ℕ) {r : Ordering} → i + k ≤ length s → i + k ≤ length t → a ≡ be_at k s i → b ≡ be_at k t i → (a ≡ b → ⊥) → r ≡ by_number a b
      → r ≡ order_of s t
  number_differ k a b {r} h l x y d e = go (ltb a b) refl
    where
      go : (z : Bool) → ltb a b ≡ z → r ≡ order_of s t
      go true f = let m : a < b = ltb-true _ _ f in e ∙ rw f (number_less k h l (omega arith))
      go false f = let m : b ≤ a = ltb-false _ _ f in e ∙ rw f (number_greater k h l (omega arith))

  -- Eight bytes.
  pub eight_alike : (a b : ℕ) → a ≡ be64_at s i → b ≡ be64_at t i → a ≡ b → true ≡ all_below (alike_at s t) (i + 8)
  eight_alike a b x y e = number_alike 8 (sym (be64_is s i) ∙ sym x ∙ e ∙ y ∙ be64_is t i)

  pub eight_differ : (n a b : ℕ) {r : Ordering} → n ≡ min (length s) (length t) → i ≤ n → 8 ≤ n - i → a ≡ be64_at s i → b ≡ be64_at t i → (a ≡ b → ⊥)
      → r ≡ by_number a b → r ≡ order_of s t
  eight_differ n a b m h l x y d e = number_differ 8 a b (omega arith) (omega arith) (x ∙ be64_is s i) (y ∙ be64_is t i) d e

-- Two fields of one length that are alike all through.
pub field_same : (s t : List ℕ) (i : ℕ) → length s ≡ length t → i ≤ length s → length s ≤ i → true ≡ all_below (alike_at s t) i → Equal ≡ order_of s t
field_same s t i l a b e = order_end s t i (order_alike s t i a (omega arith) e) b (omega arith)

-- The last eight bytes: what was compared of them is alike.
pub alike_last : (s t : List ℕ) (i n : ℕ) → true ≡ all_below (alike_at s t) i → n - i < 8 → true ≡ all_below (alike_at s t) (n - 8)
alike_last s t i n e h = sym (all_true (alike_at s t) (n - 8) (λ k l. all_at (alike_at s t) i (sym e) k (omega arith)))

module _ (s t : List ℕ) (n a b : ℕ) {r : Ordering} (bs : Bytes s) (bt : Bytes t) (least : n ≡ min (length s) (length t)) (some : 8 ≤ n)
    (alike : true ≡ all_below (alike_at s t) (n - 8)) (x : a ≡ be64_at s (n - 8)) (y : b ≡ be64_at t (n - 8)) where
  pub last_alike : a ≡ b → r ≡ by_length (length s) (length t) → r ≡ order_of s t
  last_alike e f =
      let g = order_alike s t (n - 8 + 8) (omega arith) (omega arith) (eight_alike s t (n - 8) bs bt alike a b x y e) in
      order_lengths s t (n - 8 + 8) n g least (omega arith) (omega arith) f

  pub last_differ : (a ≡ b → ⊥) → r ≡ by_number a b → r ≡ order_of s t
  last_differ d e = eight_differ s t (n - 8) bs bt alike n a b least (omega arith) (omega arith) x y d e
