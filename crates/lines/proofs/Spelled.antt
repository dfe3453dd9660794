-- What the library writes of a number are its digits, no more than it takes.
use Rattle.octets.specs.Standard.{ℕ, zero, suc, ◌+◌, ◌-◌, ◌/◌, ◌%◌, ◌^◌, ◌≤◌, ◌<◌, ◌≡◌, ap, ◌∙◌, List, [], ◌∷◌, ◌++◌, arith}
use Rattle.octets.specs.Standard.{length, length-append, lt-ltb}
use Rattle.std.specs.Prelude.{decimal}
use Rattle.std.proofs.lemmas.Fmt.{decimal_by_steps}
use Rattle.lines.specs.Digits.{hex_digit_ascii, last_digits, IsDigitCount}

pub record Spelled (n : ℕ) (text : List ℕ) : Type 0 where
  pub fewest : IsDigitCount 10 1 n (length text)
  pub digits : text ≡ last_digits 10 (length text) n

digit_is : (d : ℕ) → d < 10 → hex_digit_ascii d ≡ 48 + d
digit_is d h = rw (lt-ltb d 10 h)

one_digit : (n : ℕ) → n < 10 → Spelled n ((48 + n) ∷ [])
one_digit n h =
    let m : n % 10 ≡ n = omega arith in
    record { fewest = (omega arith, omega arith, λ l. absurd (omega arith)); digits = rw (m, digit_is n h) }

power_more : (n k : ℕ) → 10 ≤ n → 1 ≤ k → (1 < k → 10 ^ (k - 1) ≤ n / 10) → 10 ^ k ≤ n
power_more n zero h a f = absurd (omega arith)
power_more n (suc zero) h a f = h
power_more n (suc (suc j)) h a f =
    let e : suc (suc j) - 1 ≡ suc j = omega arith in
    let p : 10 ^ suc j ≤ n / 10 = rw e at (f (omega arith)) in
    omega (arith, p)

count_more : (n k : ℕ) → 10 ≤ n → IsDigitCount 10 1 (n / 10) k → IsDigitCount 10 1 n (suc k)
count_more n k h (a, b, f) = (omega arith, omega (arith, b), λ l. let e : suc k - 1 ≡ k = omega arith in rw e (power_more n k h a f))

digit_more : (n : ℕ) (text : List ℕ) → 10 ≤ n → Spelled (n / 10) text → Spelled n (text ++ ((48 + n % 10) ∷ []))
digit_more n text h s =
    let l : length (text ++ ((48 + n % 10) ∷ [])) ≡ suc (length text) = length-append text ((48 + n % 10) ∷ []) ∙ omega arith in
    record {
      fewest = rw l (count_more n (length text) h s.fewest);
      digits = rw (l, digit_is (n % 10) (omega arith)) (ap (λ (t : List ℕ). t ++ ((48 + n % 10) ∷ [])) s.digits);
    }

pub decimal_spelled : (n : ℕ) → n < 18446744073709551616 → Spelled n (decimal n)
decimal_spelled n h = decimal_by_steps Spelled one_digit digit_more n h
