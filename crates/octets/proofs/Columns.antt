-- The sum of words by the sums of their columns: column k has the bytes that stand at place k of every word.
use Rattle.octets.specs.Standard.{ℕ, zero, suc, ◌+◌, ◌*◌, ◌/◌, ◌%◌, ◌^◌, ◌<◌, ◌≤◌, ◌≡◌, refl, ap, ◌∙◌, List, arith, mod-add-mod, add-one, get_or}
use Rattle.std.proofs.Common.{w8, Fits}
use Rattle.octets.specs.Number.{four, be32_at, le32_at}
use Rattle.octets.specs.Columns.{odd_bytes, whole_of, odd_of, columns_of, even_of, turned}
use Rattle.octets.specs.Sum.{sum_words}
use Rattle.octets.specs.declared.sum.Sums.{Sums}
use Rattle.octets.proofs.Numbers.{Bytes}

-- the sum of the bytes at place k of the first n words
unfoldable column : List ℕ → ℕ → ℕ → ℕ
column s k zero = 0
column s k (suc n) = column s k n + get_or s (4 * n + k) 0

column_le : (s : List ℕ) (k n : ℕ) → Bytes s → column s k n ≤ 255 * n
unfolding column
column_le s k zero h = omega arith
column_le s k (suc n) h = omega (arith, column_le s k n h, h (4 * n + k))

-- Sums that wrap, with a word more.
four_more : (a b c d e f g h : ℕ) → (four a b c d % 2 ^ 32 + four e f g h) % 2 ^ 32 ≡ four (a + e) (b + f) (c + g) (d + h) % 2 ^ 32
four_more a b c d e f g h =
    let m : four a b c d + four e f g h ≡ four (a + e) (b + f) (c + g) (d + h) = omega arith in
    mod-add-mod (four a b c d) (2 ^ 32) (four e f g h) ∙ ap (λ (n : ℕ). n % 2 ^ 32) m

sum_columns : (s : List ℕ) (n : ℕ) → sum_words s n ≡ four (column s 0 n) (column s 1 n) (column s 2 n) (column s 3 n) % 2 ^ 32
unfolding sum_words be32_at column
sum_columns s zero = refl
sum_columns s (suc n) =
    let p : 4 * n + 0 ≡ 4 * n = omega arith in
    rw (sum_columns s n, p) (four_more (column s 0 n) (column s 1 n) (column s 2 n) (column s 3 n) _ _ _ _)

-- The turns of the loop: nothing yet, a word more, and all.
module _ (s : List ℕ) where
  pub whole_none : 0 ≡ whole_of s 0
  unfolding whole_of
  whole_none = refl

  pub odd_none : 0 ≡ odd_of s 0
  unfolding odd_of
  odd_none = refl

  pub whole_more : (i whole w : ℕ) {x : ℕ} → whole ≡ whole_of s i → w ≡ le32_at s (4 * i) → x ≡ (whole + w) % 2 ^ 32 → x ≡ whole_of s (i + 1)
  unfolding whole_of
  whole_more i whole w e f g = rw (add-one i, ← e, ← f) g

  pub odd_more : (i odd w : ℕ) {r : ℕ} → odd ≡ odd_of s i → w ≡ le32_at s (4 * i) → r ≡ odd_bytes w → odd + r ≡ odd_of s (i + 1)
  unfolding odd_of
  odd_more i odd w e f g = rw (add-one i, ← e, ← f, g)

  pub columns_end : (i n whole odd : ℕ) → i ≤ n → n ≤ i → whole ≡ whole_of s i → odd ≡ odd_of s i → record { whole = whole; odd = odd } ≡ columns_of s n
  unfolding columns_of
  columns_end i n whole odd a b e f = let k : i ≡ n = omega arith in rw (← k, e, f)

-- What the loop adds up is the columns' sums.
whole_held : (s : List ℕ) (n : ℕ) → whole_of s n ≡ four (column s 3 n) (column s 2 n) (column s 1 n) (column s 0 n) % 2 ^ 32
unfolding whole_of le32_at column
whole_held s zero = refl
whole_held s (suc n) =
    let p : 4 * n + 0 ≡ 4 * n = omega arith in
    rw (whole_held s n, p) (four_more (column s 3 n) (column s 2 n) (column s 1 n) (column s 0 n) _ _ _ _)

odd_of_lem : (a b c d : ℕ) → Fits w8 a → Fits w8 b → Fits w8 c → Fits w8 d → odd_bytes (four d c b a) ≡ b + d * 65536
odd_of_lem a b c d h i j k = omega arith

odd_held : (s : List ℕ) (n : ℕ) → Bytes s → odd_of s n ≡ column s 1 n + column s 3 n * 65536
unfolding odd_of le32_at column
odd_held s zero h = refl
odd_held s (suc n) h =
    let e = odd_of_lem _ _ _ _ (h (4 * n)) (h (4 * n + 1)) (h (4 * n + 2)) (h (4 * n + 3)) in
    rw (odd_held s n h, e) (omega arith)

-- The first and the third sum are what is left of the whole, since neither reaches 2^16.
even_of_lem : (a b c d : ℕ) → a < 65536 → c < 65536 → even_of (four d c b a % 2 ^ 32) (b + d * 65536) ≡ a + c * 65536
even_of_lem a b c d h i = omega arith

-- The two sums that a number holds.
halves : (a b : ℕ) {e : ℕ} → a < 65536 → e ≡ a + b * 65536 → (e % 65536 ≡ a) × (e / 65536 ≡ b)
halves a b h f = (omega arith, omega arith)

low : (a b : ℕ) {e : ℕ} → e ≡ a + b * 65536 → e % 256 ≡ a % 256
low a b f = omega arith

turned_of : (a b c d e o : ℕ) → a < 65536 → b < 65536 → e ≡ a + c * 65536 → o ≡ b + d * 65536 → turned e o ≡ four a b c d % 2 ^ 32
turned_of a b c d e o h i f g =
    rw (low a c f, (halves b d i g).0, (halves a c h f).1, (halves b d i g).1) (wrapped a b c d)
  where
    wrapped : (a b c d : ℕ) → (a % 256 * 16777216 + b * 65536 + (c * 256 + d)) % 2 ^ 32 ≡ four a b c d % 2 ^ 32
    wrapped a b c d = omega arith

turned_sum : (s : List ℕ) (n : ℕ) → Bytes s → n ≤ 128 → turned (even_of (whole_of s n) (odd_of s n)) (odd_of s n) ≡ sum_words s n
turned_sum s n h l =
    let a : column s 0 n < 65536 = omega (arith, column_le s 0 n h) in
    let b : column s 1 n < 65536 = omega (arith, column_le s 1 n h) in
    let c : column s 2 n < 65536 = omega (arith, column_le s 2 n h) in
    rw (sum_columns s n, whole_held s n, odd_held s n h, even_of_lem (column s 0 n) (column s 1 n) (column s 2 n) (column s 3 n) a c)
    (turned_of (column s 0 n) (column s 1 n) (column s 2 n) (column s 3 n) _ _ a b refl refl)

pub columns_sum : (s : List ℕ) (n : ℕ) (c : Sums) {e r : ℕ} → Bytes s → n ≤ 128 → c ≡ columns_of s n → e ≡ even_of c.whole c.odd → r ≡ turned e c.odd
    → r ≡ sum_words s n
unfolding columns_of
columns_sum s n c h l f g k = k ∙ rw (g, f) (turned_sum s n h l)
