-- The turns of the loop that writes a number from its last digit on.
use Rattle.octets.specs.Standard.{ℕ, suc, ◌+◌, ◌-◌, ◌/◌, ◌%◌, ◌<◌, ◌≤◌, ◌≡◌, sym, ◌∙◌, ap, arith, List, [], ◌∷◌, ◌++◌, append_assoc}
use Rattle.octets.specs.Standard.{append-nil, length, take, drop, get_or, set, take-append-drop, take-suc, set_at, length-take-le}
use Rattle.octets.specs.Run.{over, Wrote}
use Rattle.decimals.specs.Decimal.{digit_count, digits_of, decimal}
use Rattle.decimals.proofs.Sizes.{decimal_length}

-- The first i places are as they were, and the digits of the rest belong there; behind them stands what is done.
pub record Ending (b xs : List ℕ) (n i rest : ℕ) : Type 0 where
  pub done : List ℕ
  pub whole : digits_of i rest ++ done ≡ decimal n
  pub bytes : xs ≡ take i b ++ (done ++ drop (digit_count n) b)

pub ending_none : (b : List ℕ) (n i : ℕ) → i ≡ digit_count n → Ending b b n i n
unfolding decimal
ending_none b n i e = record { done = []; whole = rw e (append-nil (digits_of (digit_count n) n)); bytes = rw e (sym (take-append-drop (digit_count n) b)) }

pub ending_more : (b xs : List ℕ) (n i rest x : ℕ) → Ending b xs n i rest → 0 < i → i ≤ digit_count n → digit_count n ≤ length b → x ≡ 48 + rest % 10
    → Ending b (set xs (i - 1) x) n (i - 1) (rest / 10)
unfolding digits_of
ending_more b xs n i rest x g h l r e =
    let d : i ≡ suc (i - 1) = omega arith in
    let j : ℕ = i - 1 in
    let m : j < length b = omega arith in
    let w : digits_of (suc j) rest ++ g.done ≡ decimal n = ap (λ (m : ℕ). digits_of m rest ++ g.done) (sym d) ∙ g.whole in
    let y : xs ≡ take (suc j) b ++ (g.done ++ drop (digit_count n) b) = g.bytes ∙ ap (λ (m : ℕ). take m b ++ (g.done ++ drop (digit_count n) b)) d in
    record {
      done = x ∷ g.done;
      whole = rw e (sym (append_assoc (digits_of j (rest / 10)) ((48 + rest % 10) ∷ []) g.done) ∙ w);
      bytes =
          rw (y, take-suc b j 0 m, append_assoc (take j b) (get_or b j 0 ∷ []) (g.done ++ drop (digit_count n) b))
          (set_at (take j b) (get_or b j 0) (g.done ++ drop (digit_count n) b) x j (length-take-le j b (omega arith)));
    }

pub ending_all : (b xs : List ℕ) (n i rest r : ℕ) → Ending b xs n i rest → i ≤ 0 → r ≡ digit_count n → Wrote (decimal n) b xs r
unfolding digits_of over
ending_all b xs n i rest r g h e =
    let z : i ≡ 0 = omega arith in
    let w : g.done ≡ decimal n = rw z at g.whole in
    let y : xs ≡ g.done ++ drop (digit_count n) b = rw z at g.bytes in
    record { count = e ∙ sym (decimal_length n); bytes = y ∙ rw (w, decimal_length n) }
