-- The first number that is not good: the turns of the loop over the records, and what the answer says.
use Rattle.std.specs.Prelude.{Result, Ok, Err}
use Rattle.octets.specs.Standard.{ℕ, zero, suc, ◌+◌, ◌-◌, ◌<◌, ◌≤◌, Bool, true, false, cond, ◌≡◌, refl, sym, arith, add-one, eqb, ltb, eqb-true}
use Rattle.octets.specs.Standard.{eqb-false, ltb-true, ltb-false}
use Rattle.blocks.specs.Blocks.{first_bad}

-- the loop goes from some number up to `stop`, and k is the next
module _ (good : ℕ → Bool) (count stop k : ℕ) {whole : Result ℕ ℕ} (left : whole ≡ first_bad good count (stop - k) k) where
  pub first_bad_lem : {x : Bool} → k < stop → x ≡ good k → x ≡ false → Err k ≡ whole
  unfolding first_bad
  first_bad_lem h e f =
      let n : stop - k ≡ suc (stop - (k + 1)) = omega arith in
      let g : good k ≡ false = cc in
      rw (left, n, g)

  pub first_more : {x : Bool} → k < stop → x ≡ good k → x ≡ true → whole ≡ first_bad good count (stop - (k + 1)) (k + 1)
  unfolding first_bad
  first_more h e f =
      let n : stop - k ≡ suc (stop - (k + 1)) = omega arith in
      let g : good k ≡ true = cc in
      rw (left, n, g, add-one k)

  pub first_none : stop ≤ k → Ok count ≡ whole
  unfolding first_bad
  first_none h = let n : stop - k ≡ 0 = omega arith in rw (left, n)

-- the loop over the records stops behind the last one
pub below_stop : {k count : ℕ} → k ≤ count → k < count + 1
below_stop h = omega arith

pub past_stop : {k count : ℕ} → count < k → count + 1 ≤ k
past_stop h = omega arith

-- An answer is not both.
pub bad_sound : {A : Type 0} (c : Result ℕ ℕ) (k n : ℕ) → c ≡ Err k → c ≡ Ok n → A
bad_sound c k n a b = let z : ◌≡◌ {A = ℕ} 0 1 = cc in absurd (omega arith)

-- Where none is bad, each is good, and the count is as it was given.
pub good_each : (good : ℕ → Bool) (count c n k : ℕ) → first_bad good count n k ≡ Ok c → (j : ℕ) → k ≤ j → j < k + n → good j ≡ true
unfolding first_bad
good_each good count c zero k e j a b = absurd (omega arith)
good_each good count c (suc n) k e j a b = go (good k) (ltb k j) refl refl e (λ g h. good_each good count c n (suc k) g j h (omega arith))
  where
    go : (x y : Bool) → good k ≡ x → ltb k j ≡ y → cond x (first_bad good count n (suc k)) (Err k) ≡ Ok c
        → (first_bad good count n (suc k) ≡ Ok c → suc k ≤ j → good j ≡ true) → good j ≡ true
    go false y f h g r = bad_sound (Err k) k c refl g
    go true true f h g r = r g (ltb-true _ _ h)
    go true false f h g r = let i : j ≡ k = omega (arith, ltb-false k j h) in rw i f

pub good_count : (good : ℕ → Bool) (count c n k : ℕ) → first_bad good count n k ≡ Ok c → count ≡ c
unfolding first_bad
good_count good count c zero k e = cc
good_count good count c (suc n) k e = go (good k) e (good_count good count c n (suc k))
  where
    go : (x : Bool) → cond x (first_bad good count n (suc k)) (Err k) ≡ Ok c → (first_bad good count n (suc k) ≡ Ok c → count ≡ c) → count ≡ c
    go false g r = bad_sound (Err k) k c refl g
    go true g r = r g

-- Where each is good, none is bad.
pub all_good : (good : ℕ → Bool) (count n k : ℕ) → ((j : ℕ) → k ≤ j → j < k + n → good j ≡ true) → first_bad good count n k ≡ Ok count
unfolding first_bad
all_good good count zero k h = refl
all_good good count (suc n) k h = rw (h k (omega arith) (omega arith)) (all_good good count n (suc k) (λ j a b. h j (omega arith) (omega arith)))

-- What the answer says of the first number that is not good, and the other way round.
pub record FirstNot (good : ℕ → Bool) (n k j : ℕ) : Type 0 where
  pub from : k ≤ j
  pub to : j < k + n
  pub here : good j ≡ false
  pub before : (i : ℕ) → k ≤ i → i < j → good i ≡ true

same_bad : (i j : ℕ) → ◌≡◌ {A = Result ℕ ℕ} (Err i) (Err j) → i ≡ j
same_bad i j e = cc

pub bad_says : (good : ℕ → Bool) (count n k j : ℕ) → first_bad good count n k ≡ Err j → FirstNot good n k j
unfolding first_bad
bad_says good count zero k j e = bad_sound (Err j) j count refl (sym e)
bad_says good count (suc n) k j e = go (good k) refl e (bad_says good count n (suc k) j)
  where
    go : (x : Bool) → good k ≡ x → cond x (first_bad good count n (suc k)) (Err k) ≡ Err j → (first_bad good count n (suc k) ≡ Err j → FirstNot good n (suc k) j)
        → FirstNot good (suc n) k j
    go false f g r =
        let q : k ≡ j = same_bad k j g in
        record { from = omega arith; to = omega arith; here = rw (← q) f; before = λ i a b. absurd (omega arith) }
    go true f g r = let s : FirstNot good n (suc k) j = r g in
        record { from = omega (arith, s.from); to = omega (arith, s.to); here = s.here; before = λ i a b. near i a b s (eqb i k) refl }
      where
        near : (i : ℕ) → k ≤ i → i < j → FirstNot good n (suc k) j → (y : Bool) → eqb i k ≡ y → good i ≡ true
        near i a b s true h = let q : i ≡ k = eqb-true i k h in rw q f
        near i a b s false h = s.before i (let q : i ≡ k → ⊥ = eqb-false i k h in omega arith) b

pub bad_holds : (good : ℕ → Bool) (count n k j : ℕ) → FirstNot good n k j → first_bad good count n k ≡ Err j
unfolding first_bad
bad_holds good count zero k j s = absurd (omega (arith, s.from, s.to))
bad_holds good count (suc n) k j s = go (eqb k j) refl (bad_holds good count n (suc k) j)
  where
    go : (x : Bool) → eqb k j ≡ x → (FirstNot good n (suc k) j → first_bad good count n (suc k) ≡ Err j)
        → cond (good k) (first_bad good count n (suc k)) (Err k) ≡ Err j
    go true e r = let q : k ≡ j = eqb-true k j e in rw (q, s.here)
    go false e r =
        let q : k ≡ j → ⊥ = eqb-false k j e in
        let l : k < j = omega (arith, s.from) in
        rw (s.before k (omega arith) l)
        (r (record { from = omega arith; to = omega (arith, s.to); here = s.here; before = λ i a b. s.before i (omega arith) b }))
