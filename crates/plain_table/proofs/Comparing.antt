-- What the library's tests say, in the words of the definitions; the turns of the loop over words.
use Rattle.std.specs.Prelude.{IsTrue, nat_eq, Some}
use Rattle.std.specs.Cmp.Lexicographic.{pointwise, slice_partial_cmp, told_text}
use Rattle.std.specs.Bool.{MatchBool}
use Rattle.std.specs.Ordering.{is_some_and, is_lt, nat_cmp}
use Rattle.octets.specs.Standard.{ℕ, ◌+◌, ◌*◌, ◌%◌, ◌^◌, ◌<◌, ◌≤◌, Bool, true, false, true≢false, ◌↔◌, ◌≢◌, ◌≡◌, refl, sym, List, [], ◌∷◌}
use Rattle.octets.specs.Standard.{arith, add-one, eqb, ltb, lt-ltb, le-ltb, eqb-true, eqb-false, ltb-false, ◌-◌, get_or}
use Rattle.octets.specs.All.{all_below}
use Rattle.octets.specs.Name.{same, order_of}
use Rattle.octets.specs.Number.{be32_at}
use Rattle.octets.specs.Sum.{sum_words}
use Rattle.octets.proofs.All.{all_at, all_true}
use Rattle.octets.proofs.Names.{same_yes, same_no}
use Rattle.table.specs.Check.{is_less}

module _ (b : List ℕ) where
  pub sum_none : 0 ≡ sum_words b 0
  unfolding sum_words
  sum_none = refl

  pub sum_more : (i sum w : ℕ) {x : ℕ} → sum ≡ sum_words b i → w ≡ be32_at b (4 * i) → x ≡ (sum + w) % 2 ^ 32 → x ≡ sum_words b (i + 1)
  unfolding sum_words
  sum_more i sum w e f g = rw (add-one i, ← e, ← f) g

  pub sum_all : (i : ℕ) {sum : ℕ} → i ≤ 128 → 128 ≤ i → sum ≡ sum_words b i → sum ≡ sum_words b 128
  sum_all i h l e = let k : i ≡ 128 = omega arith in rw (← k) e

-- A test of every number below a bound.
pub all_is : (p : ℕ → Bool) (n : ℕ) {r : Bool} → (IsTrue r ↔ ((i : ℕ) → i < n → p i ≡ true)) → r ≡ all_below p n
all_is p n {r} h = go r h (all_below p n) refl
  where
    go : (x : Bool) → (IsTrue x ↔ ((i : ℕ) → i < n → p i ≡ true)) → (y : Bool) → all_below p n ≡ y → x ≡ all_below p n
    go true k y e = sym (all_true p n (k.0 refl))
    go false k true e = absurd (true≢false (sym (k.1 (all_at p n e))))
    go false k false e = sym e

-- The same of the numbers from one on, in a test that counts from zero. A number shows as a place in a list: there the library's laws of ranges take it.
pub all_from : (p : ℕ → Bool) (k : ℕ) (xs : List ℕ) {r : Bool}
    → (IsTrue r → (j : ℕ) → get_or xs j 0 ≡ get_or xs j 0 → 1 ≤ j → j < k → p (j - 1) ≡ true) → (((i : ℕ) → i < k - 1 → p i ≡ true) → IsTrue r)
    → r ≡ all_below p (k - 1)
all_from p k xs {r} f g = all_is p (k - 1) (each, g)
  where
    each : IsTrue r → (i : ℕ) → i < k - 1 → p i ≡ true
    each e i l =
        let h : p (i + 1 - 1) ≡ true = f e (i + 1) refl (omega arith) (omega arith) in
        let n : i + 1 - 1 ≡ i = omega arith in
        rw n at h

-- Two slices that are equal, and one that is less.
pub same_is : (s t : List ℕ) {r : Bool} → r ≡ pointwise nat_eq s t → r ≡ same s t
same_is s t {r} e = go r (told_text s t r e)
  where
    go : (x : Bool) → MatchBool x (s ≡ t) (s ≢ t) → x ≡ same s t
    go true h = sym (same_yes s t h)
    go false h = sym (same_no s t h)

pub less_is : (s t : List ℕ) → is_some_and is_lt (slice_partial_cmp (λ x y. Some (nat_cmp x y)) s t) ≡ is_less (order_of s t)
unfolding order_of
less_is [] [] = refl
less_is [] (y ∷ t) = refl
less_is (x ∷ s) [] = refl
less_is (x ∷ s) (y ∷ t) = go (ltb x y) refl (eqb x y) refl (less_is s t)
  where
    go : (a : Bool) → ltb x y ≡ a → (b : Bool) → eqb x y ≡ b → is_some_and is_lt (slice_partial_cmp (λ x y. Some (nat_cmp x y)) s t) ≡ is_less (order_of s t)
        → is_some_and is_lt (slice_partial_cmp (λ x y. Some (nat_cmp x y)) (x ∷ s) (y ∷ t)) ≡ is_less (order_of (x ∷ s) (y ∷ t))
    go true e b f h = rw e
    go false e true f h = let l : x ≤ y = omega (arith, eqb-true x y f) in rw (e, f, le-ltb y x l) h
    go false e false f h = let l : y < x = omega (arith, ltb-false x y e, eqb-false x y f) in rw (e, f, lt-ltb y x l)
