-- The vectors that are chosen: so many as asked or as remain, unused and of that name, the first ones in file order, each once.
use Rattle.octets.specs.Standard.{ℕ, zero, suc, ◌+◌, ◌<◌, ◌≤◌, min, Bool, true, false, cond, true≢false, ◌≡◌, refl, sym, ◌∙◌, List, [], ◌∷◌, arith}
use Rattle.octets.specs.Standard.{length, eqb, eqb-true, eqb-false}
use Rattle.vectors.specs.Chosen.{first_ones}
use Rattle.vectors.specs.Sendable.{count_from, Rising}
use Rattle.blocks.specs.Changed.{is_one}

module _ (p : ℕ → Bool) where
  -- as many as asked or as remain
  pub ones_many : (n k most : ℕ) → length (first_ones p n k most) ≡ min most (count_from p n k)
  unfolding first_ones count_from
  ones_many zero k most = omega arith
  ones_many (suc n) k zero = omega arith
  ones_many (suc n) k (suc most) = go (p k) (ones_many n (suc k) most) (ones_many n (suc k) (suc most))
    where
      go : (x : Bool) → length (first_ones p n (suc k) most) ≡ min most (count_from p n (suc k))
          → length (first_ones p n (suc k) (suc most)) ≡ min (suc most) (count_from p n (suc k))
          → length (cond x (k ∷ first_ones p n (suc k) most) (first_ones p n (suc k) (suc most)))
          ≡ min (suc most) (cond x (suc (count_from p n (suc k))) (count_from p n (suc k)))
      go true a b = omega arith
      go false a b = omega arith

  -- each one in its place, each once
  pub ones_rise : (n k most : ℕ) → Rising k (first_ones p n k most)
  unfolding first_ones
  ones_rise zero k most = tt
  ones_rise (suc n) k zero = tt
  ones_rise (suc n) k (suc most) = go (p k) (ones_rise n (suc k) most) (ones_rise n (suc k) (suc most))
    where
      lower : (ks : List ℕ) → Rising (suc k) ks → Rising k ks
      lower [] r = tt
      lower (j ∷ ks) r = (omega (arith, r.0), r.1)

      go : (x : Bool) → Rising (suc k) (first_ones p n (suc k) most) → Rising (suc k) (first_ones p n (suc k) (suc most))
          → Rising k (cond x (k ∷ first_ones p n (suc k) most) (first_ones p n (suc k) (suc most)))
      go true a b = (omega arith, a)
      go false a b = lower (first_ones p n (suc k) (suc most)) b

  -- each is one of the file's, and the test holds of it
  pub ones_hold : (n k most j : ℕ) → is_one (first_ones p n k most) j ≡ true → (k ≤ j) × (j < k + n) × (p j ≡ true)
  unfolding first_ones is_one
  ones_hold zero k most j e = absurd (true≢false (sym e))
  ones_hold (suc n) k zero j e = absurd (true≢false (sym e))
  ones_hold (suc n) k (suc most) j e = go (p k) refl (eqb j k) refl e (ones_hold n (suc k) most j) (ones_hold n (suc k) (suc most) j)
    where
      widen : (suc k ≤ j) × (j < suc k + n) × (p j ≡ true) → (k ≤ j) × (j < k + suc n) × (p j ≡ true)
      widen (a, b, c) = (omega arith, omega arith, c)

      go : (x : Bool) → p k ≡ x → (y : Bool) → eqb j k ≡ y → is_one (cond x (k ∷ first_ones p n (suc k) most) (first_ones p n (suc k) (suc most))) j ≡ true
          → (is_one (first_ones p n (suc k) most) j ≡ true → (suc k ≤ j) × (j < suc k + n) × (p j ≡ true))
          → (is_one (first_ones p n (suc k) (suc most)) j ≡ true → (suc k ≤ j) × (j < suc k + n) × (p j ≡ true))
          → (k ≤ j) × (j < k + suc n) × (p j ≡ true)
      go false f y g h a b = widen (b h)
      go true f true g h a b = let q : j ≡ k = eqb-true _ _ g in (omega arith, omega arith, rw q f)
      go true f false g h a b = widen (a (rw g at h))

  -- none that the test holds of is passed over: one that is not chosen comes after all that are
  pub ones_first : (n k most j i : ℕ) → k ≤ j → j < k + n → p j ≡ true → is_one (first_ones p n k most) j ≡ false
      → is_one (first_ones p n k most) i ≡ true → i < j
  unfolding first_ones is_one
  ones_first zero k most j i l h e f g = absurd (true≢false (sym g))
  ones_first (suc n) k zero j i l h e f g = absurd (true≢false (sym g))
  ones_first (suc n) k (suc most) j i l h e f g =
      go (p k) refl (eqb j k) refl (eqb i k) refl f g (λ m. ones_first n (suc k) most j i m (omega arith) e)
      (λ m. ones_first n (suc k) (suc most) j i m (omega arith) e)
    where
      go : (x : Bool) → p k ≡ x → (y : Bool) → eqb j k ≡ y → (z : Bool) → eqb i k ≡ z
          → is_one (cond x (k ∷ first_ones p n (suc k) most) (first_ones p n (suc k) (suc most))) j ≡ false
          → is_one (cond x (k ∷ first_ones p n (suc k) most) (first_ones p n (suc k) (suc most))) i ≡ true
          → (suc k ≤ j → is_one (first_ones p n (suc k) most) j ≡ false → is_one (first_ones p n (suc k) most) i ≡ true → i < j)
          → (suc k ≤ j → is_one (first_ones p n (suc k) (suc most)) j ≡ false → is_one (first_ones p n (suc k) (suc most)) i ≡ true → i < j)
          → i < j
      go false d true c z w f g a b = let q : j ≡ k = eqb-true _ _ c in absurd (true≢false (sym (rw q at e) ∙ d))
      go false d false c z w f g a b = b (omega (arith, eqb-false j k c)) f g
      go true d true c z w f g a b = absurd (true≢false (rw c at f))
      go true d false c true w f g a b = omega (arith, eqb-true i k w, eqb-false j k c)
      go true d false c false w f g a b = a (omega (arith, eqb-false j k c)) (rw c at f) (rw w at g)
