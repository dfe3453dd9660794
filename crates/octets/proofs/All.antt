-- Laws of conjunctions, and of a test of every number below a bound.
use Rattle.octets.specs.Standard.{ℕ, zero, suc, ◌+◌, ◌<◌, ◌≤◌, Bool, true, false, ◌&&◌, and_assoc, and-true, true≢false, ◌≡◌, refl, sym, arith}
use Rattle.octets.specs.Standard.{add-one, ltb, ltb-true, ltb-false}
use Rattle.octets.specs.All.{all_below}

pub and_left : (a b : Bool) → (a && b) ≡ true → a ≡ true
and_left true b e = refl
and_left false b e = absurd (true≢false (sym e))

pub and_right : (a b : Bool) → (a && b) ≡ true → b ≡ true
and_right true b e = e
and_right false b e = absurd (true≢false (sym e))

-- The turns of a loop that tests every number below a bound: nothing yet, one more, and all.
pub all_none : (p : ℕ → Bool) → true ≡ all_below p 0
unfolding all_below
all_none p = refl

pub all_more : (p : ℕ → Bool) (i : ℕ) {good x : Bool} → good ≡ all_below p i → x ≡ p i → (good && x) ≡ all_below p (i + 1)
unfolding all_below
all_more p i e f = rw (add-one, e, f)

pub all_end : (p : ℕ → Bool) (i n : ℕ) {good : Bool} → good ≡ all_below p i → i ≤ n → n ≤ i → good ≡ all_below p n
all_end p i n e a b = let k : i ≡ n = omega arith in cc

-- What holds of every number below a bound holds of each, and the other way round.
pub all_at : (p : ℕ → Bool) (n : ℕ) → all_below p n ≡ true → (i : ℕ) → i < n → p i ≡ true
unfolding all_below
all_at p zero e i h = absurd (omega arith)
all_at p (suc n) e i h = go (ltb i n) refl (all_at p n (and_left (all_below p n) (p n) e) i)
  where
    go : (x : Bool) → ltb i n ≡ x → (i < n → p i ≡ true) → p i ≡ true
    go true f r = r (ltb-true _ _ f)
    go false f r = let k : i ≡ n = omega (arith, ltb-false i n f) in rw k (and_right (all_below p n) (p n) e)

pub all_true : (p : ℕ → Bool) (n : ℕ) → ((i : ℕ) → i < n → p i ≡ true) → all_below p n ≡ true
unfolding all_below
all_true p zero h = refl
all_true p (suc n) h = rw (all_true p n (λ i k. h i (omega arith)), h n (omega arith))

-- Tests that agree below a bound.
pub all_alike : (p q : ℕ → Bool) (n : ℕ) → ((i : ℕ) → i < n → p i ≡ q i) → all_below p n ≡ all_below q n
unfolding all_below
all_alike p q zero h = refl
all_alike p q (suc n) h = rw (all_alike p q n (λ i k. h i (omega arith)), h n (omega arith))

-- A stretch after the first i of them.
module _ (p q : ℕ → Bool) (i : ℕ) (later : (j : ℕ) → q j ≡ p (i + j)) where
  pub all_join : (k : ℕ) → all_below p (i + k) ≡ (all_below p i && all_below q k)
  unfolding all_below
  all_join zero = let n : i + 0 ≡ i = omega arith in rw (n, and-true)
  all_join (suc k) = let n : i + suc k ≡ suc (i + k) = omega arith in rw (n, all_join k, later k, and_assoc)

  pub all_stretch : (k : ℕ) → true ≡ all_below p i → all_below q k ≡ all_below p (i + k)
  all_stretch k e = rw (all_join k, ← e)
