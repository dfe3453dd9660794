-- How many digits a number has: the turns of the loop that counts them, and that they are enough.
use Rattle.octets.specs.Standard.{ℕ, zero, suc, ◌+◌, ◌-◌, ◌/◌, ◌^◌, ◌<◌, ◌≤◌, Bool, true, false, cond, ◌≡◌, refl, arith, ltb}
use Rattle.octets.specs.Standard.{lt-ltb, le-ltb, ltb-true, length, length-append}
use Rattle.decimals.specs.Decimal.{digits_more, digit_count, digits_of, decimal}

pub size_none : (n : ℕ) → digit_count n ≡ 1 + digits_more (10 - 1) n
unfolding digit_count
size_none n = omega arith

module _ (n size rest : ℕ) (left : digit_count n ≡ size + digits_more (10 - size) rest) where
  pub size_more : size < 10 → 10 ≤ rest → digit_count n ≡ size + 1 + digits_more (10 - (size + 1)) (rest / 10)
  unfolding digits_more
  size_more h l =
      let d : 10 - size ≡ suc (10 - (size + 1)) = omega arith in
      let m : digit_count n ≡ size + suc (digits_more (10 - (size + 1)) (rest / 10)) = rw (d, le-ltb rest 10 l) at left in
      omega arith

  pub size_last : size < 10 → rest < 10 → size ≡ digit_count n
  unfolding digits_more
  size_last h l =
      let d : 10 - size ≡ suc (10 - (size + 1)) = omega arith in
      let m : digit_count n ≡ size + 0 = rw (d, lt-ltb rest 10 l) at left in
      omega arith

  pub size_end : 10 ≤ size → size ≤ 10 → 10 ≡ digit_count n
  unfolding digits_more
  size_end h l =
      let d : 10 - size ≡ 0 = omega arith in
      let m : digit_count n ≡ size + 0 = rw d at left in
      omega arith

-- A number of at most f + 1 digits is below 10 to the power of how many it has.
more_enough : (f n : ℕ) → n < 10 ^ suc f → n < 10 ^ suc (digits_more f n)
unfolding digits_more
more_enough zero n h = h
more_enough (suc f) n h = go (ltb n 10) refl (more_enough f (n / 10))
  where
    go : (x : Bool) → ltb n 10 ≡ x → (n / 10 < 10 ^ suc f → n / 10 < 10 ^ suc (digits_more f (n / 10)))
        → n < 10 ^ suc (cond x 0 (suc (digits_more f (n / 10))))
    go true e r = omega (arith, ltb-true n 10 e)
    go false e r = let k : n / 10 < 10 ^ suc (digits_more f (n / 10)) = r (omega arith) in omega arith

pub size_enough : (n : ℕ) → n < 10 ^ 10 → n < 10 ^ digit_count n
unfolding digit_count
size_enough n h = more_enough 9 n h

more_few : (f n : ℕ) → digits_more f n ≤ f
unfolding digits_more
more_few zero n = omega arith
more_few (suc f) n = go (ltb n 10) (more_few f (n / 10))
  where
    go : (x : Bool) → digits_more f (n / 10) ≤ f → cond x 0 (suc (digits_more f (n / 10))) ≤ suc f
    go true h = omega arith
    go false h = omega arith

pub size_few : (n : ℕ) → digit_count n ≤ 10
unfolding digit_count
size_few n = omega (arith, more_few 9 n)

-- What is written has as many bytes.
pub digits_length : (k n : ℕ) → length (digits_of k n) ≡ k
unfolding digits_of
digits_length zero n = refl
digits_length (suc k) n = simp length-append (omega (arith, digits_length k (n / 10)))

pub decimal_length : (n : ℕ) → length (decimal n) ≡ digit_count n
unfolding decimal
decimal_length n = digits_length (digit_count n) n
