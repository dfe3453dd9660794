-- Laws of sums of words: past a store, and where the bytes are alike.
use Rattle.octets.specs.Standard.{ℕ, zero, suc, ◌+◌, ◌*◌, ◌^◌, ◌<◌, ◌≤◌, ◌≡◌, refl, List, arith, mod-lt, lit<, get_or, set}
use Rattle.octets.specs.Number.{put_be32}
use Rattle.octets.specs.Sum.{sum_words}
use Rattle.octets.proofs.Numbers.{be32_alike, word_set}

pub sum_lt : (s : List ℕ) (n : ℕ) → sum_words s n < 2 ^ 32
unfolding sum_words
sum_lt s zero = lit< tt
sum_lt s (suc n) = mod-lt _ (lit< tt)

-- A store past the words of a sum leaves the sum, and so does a word.
pub sum-set : (s : List ℕ) (i v n : ℕ) → 4 * n ≤ i → sum_words (set s i v) n ≡ sum_words s n
unfolding sum_words
sum-set s i v zero h = refl
sum-set s i v (suc n) h = rw (sum-set s i v n (omega arith), word_set s i v (4 * n) (omega arith))

pub sum_put : (s : List ℕ) (at w n : ℕ) → 4 * n ≤ at → sum_words (put_be32 s at w) n ≡ sum_words s n
unfolding put_be32
sum_put s at w n h = rw (sum-set _ (at + 3) _ n (omega arith), sum-set _ (at + 2) _ n (omega arith), sum-set _ (at + 1) _ n (omega arith), sum-set s at _ n h)

pub sum_alike : (x y : List ℕ) (n : ℕ) → ((i : ℕ) → i < 4 * n → get_or x i 0 ≡ get_or y i 0) → sum_words x n ≡ sum_words y n
unfolding sum_words
sum_alike x y zero h = refl
sum_alike x y (suc n) h = rw (sum_alike x y n (λ i k. h i (omega arith)), be32_alike x y (4 * n) (4 * n) (λ j l. h (4 * n + j) (omega arith)))
