-- A block that is given a new check word: it sums to zero, and is as it was before that word.
use Rattle.octets.specs.Standard.{ℕ, suc, ◌+◌, ◌-◌, ◌*◌, ◌%◌, ◌^◌, ◌<◌, ◌≤◌, ◌≡◌, sym, ◌∙◌, ◌≢◌, List, [], ◌∷◌, ◌++◌, append-nil, arith, mod-lt, lit<}
use Rattle.octets.specs.Standard.{length, get_or, set, take, length-set, drop_of_length-le, get_or-set_other, sets-eq}
use Rattle.octets.specs.Number.{be32_at, put_be32}
use Rattle.octets.specs.Sum.{sum_words}
use Rattle.octets.proofs.Numbers.{Bytes, word_put, word_held, word_lt}
use Rattle.octets.proofs.Parts.{part_alike}
use Rattle.octets.proofs.Sums.{sum_lt, sum_put, sum_alike}
use Rattle.blocks.specs.Sealed.{negated, sealed}

negated_lt : (s : ℕ) → negated s < 2 ^ 32
unfolding negated
negated_lt s = mod-lt _ (lit< tt)

negated_zero : (s : ℕ) → s < 2 ^ 32 → (s + negated s) % 2 ^ 32 ≡ 0
unfolding negated
negated_zero s h = omega arith

-- over the number of words: the last is what the others lack
put_zero : (b : List ℕ) (n : ℕ) → 4 * n + 4 ≤ length b → sum_words (put_be32 b (4 * n) (negated (sum_words b n))) (suc n) ≡ 0
unfolding sum_words
put_zero b n h =
    rw (sum_put b (4 * n) (negated (sum_words b n)) n (omega arith), word_put b (4 * n) (negated (sum_words b n)) h (negated_lt (sum_words b n)))
    (negated_zero (sum_words b n) (sum_lt b n))

pub sealed_zero : (b : List ℕ) → length b ≡ 512 → sum_words (sealed b) 128 ≡ 0
unfolding sealed
sealed_zero b h = put_zero b 127 (omega arith)

-- A check word leaves the length, and what is before it.
pub sealed_length : (b : List ℕ) → length (sealed b) ≡ length b
unfolding sealed put_be32
sealed_length b = simp length-set

pub seal_before : (b : List ℕ) (i : ℕ) → i < 508 → get_or (sealed b) i 0 ≡ get_or b i 0
unfolding sealed put_be32
seal_before b i h =
    let k0 : i ≢ 508 = omega arith in
    let k1 : i ≢ 509 = omega arith in
    let k2 : i ≢ 510 = omega arith in
    let k3 : i ≢ 511 = omega arith in
    simp get_or-set_other

-- Blocks that are alike before their check words are alike once they are sealed.
tail_word : (b : List ℕ) (x y z w : ℕ) → length b ≡ 512 → set (set (set (set b 508 x) 509 y) 510 z) 511 w ≡ take 508 b ++ (x ∷ y ∷ z ∷ w ∷ [])
tail_word b x y z w h = sets-eq (x ∷ y ∷ z ∷ w ∷ []) b 508 (omega arith) ∙ rw (drop_of_length-le b {i = 512} (omega arith), append-nil)

pub seal_alike : (b c : List ℕ) → length b ≡ 512 → length c ≡ 512 → ((i : ℕ) → i < 508 → get_or b i 0 ≡ get_or c i 0) → sealed b ≡ sealed c
unfolding sealed put_be32
seal_alike b c k l h =
    let s : sum_words b 127 ≡ sum_words c 127 = sum_alike b c 127 (λ i m. h i (omega arith)) in
    let p : take 508 b ≡ take 508 c = part_alike b c 0 508 (omega arith) (λ i m n. h i (omega arith)) in
    tail_word b _ _ _ _ k ∙ rw (s, p) (sym (tail_word c _ _ _ _ l))

-- A check word: what the other words lack, from the word that was there and the sum with it.
negated_from : (x c s : ℕ) → x < 2 ^ 32 → c < 2 ^ 32 → s ≡ (x + c) % 2 ^ 32 → (c + (2 ^ 32 - s)) % 2 ^ 32 ≡ negated x
unfolding negated
negated_from x c s a b e = omega arith

pub seal_put : (b : List ℕ) {c s : ℕ} {y : List ℕ} → c ≡ be32_at b 508 → s ≡ sum_words b 128 → c < 2 ^ 32
    → y ≡ put_be32 b 508 ((c + (2 ^ 32 - s)) % 2 ^ 32) → y ≡ sealed b
unfolding sealed sum_words
seal_put b {c} {s} e f h k = rw (← negated_from (sum_words b 127) c s (sum_lt b 127) h (rw e f)) k

-- A block of bytes that sums to zero has its check word.
negated_is : (x c : ℕ) → x < 2 ^ 32 → c < 2 ^ 32 → (x + c) % 2 ^ 32 ≡ 0 → negated x ≡ c
unfolding negated
negated_is x c h k e = omega arith

pub sealed_held : (b : List ℕ) → Bytes b → sum_words b 128 ≡ 0 → sealed b ≡ b
unfolding sealed sum_words
sealed_held b bytes e = rw (negated_is (sum_words b 127) (be32_at b 508) (sum_lt b 127) (word_lt b 508 bytes) e) (word_held b 508 bytes)
