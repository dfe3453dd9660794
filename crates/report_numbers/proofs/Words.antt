-- The words of a report, read back out of the area that it was written to.
use Rattle.octets.specs.Standard.{ℕ, zero, suc, ◌+◌, ◌*◌, ◌/◌, ◌%◌, ◌^◌, ◌≤◌, ◌<◌, List, [], ◌∷◌, ◌++◌, ◌≡◌, ◌∙◌, arith, shr-shr, length, get_or, take}
use Rattle.octets.specs.Standard.{drop, get_or-append, length-drop, drop_at, drop-drop, take_at, drop-append-le, take-append-le}
use Rattle.octets.specs.Number.{four, be32_at}
use Rattle.octets.specs.Run.{over}
use Rattle.octets.proofs.Numbers.{be32_alike, be32_drop}
use Rattle.octets.proofs.Writes.{over_length}
use Rattle.counting.specs.Words.{long_bytes, words_bytes}
use Rattle.counting.proofs.Longs.{long_length, bytes_length}
use Rattle.report_numbers.specs.Area.{word_in}

-- eight bytes, each the rest of what is above it
made : (n a b c d e f g q r s t u v w x : ℕ) → n ≡ a * 256 + q → a ≡ b * 256 + r → b ≡ c * 256 + s → c ≡ d * 256 + t → d ≡ e * 256 + u → e ≡ f * 256 + v
    → f ≡ g * 256 + w → g ≡ x → four x w v u * 4294967296 + four t s r q ≡ n
made n a b c d e f g q r s t u v w x h i j k l m o p = omega arith

-- the first word, and those behind it
long_back : (n : ℕ) → n < 2 ^ 64 → (r : List ℕ) → word_in (long_bytes n ++ r) 0 ≡ n
unfolding word_in long_bytes be32_at
long_back n h r =
    made n (n / 256) (n / 65536) (n / 16777216) (n / 4294967296) (n / 1099511627776) (n / 281474976710656) (n / 72057594037927936)
    (n % 256) (n / 256 % 256) (n / 65536 % 256) (n / 16777216 % 256) (n / 4294967296 % 256) (n / 1099511627776 % 256) (n / 281474976710656 % 256)
    (n / 72057594037927936 % 256) (omega arith) (omega (arith, shr-shr n 8 8)) (omega (arith, shr-shr n 16 8)) (omega (arith, shr-shr n 24 8))
    (omega (arith, shr-shr n 32 8)) (omega (arith, shr-shr n 40 8)) (omega (arith, shr-shr n 48 8)) (omega arith)

word_later : (n : ℕ) (r : List ℕ) (i : ℕ) → word_in (long_bytes n ++ r) (suc i) ≡ word_in r i
unfolding word_in
word_later n r i =
    let d : drop 8 (long_bytes n ++ r) ≡ r = drop_at (long_bytes n) r 8 (long_length n) in
    let a : 8 * suc i ≡ 8 + 8 * i = omega arith in
    let b : 8 * suc i + 4 ≡ 8 + (8 * i + 4) = omega arith in
    rw (b, a, ← be32_drop (long_bytes n ++ r) 8 (8 * i), ← be32_drop (long_bytes n ++ r) 8 (8 * i + 4), d)

word_back : (ws : List ℕ) (i : ℕ) → i < length ws → get_or ws i 0 < 2 ^ 64 → word_in (words_bytes ws) i ≡ get_or ws i 0
unfolding words_bytes
word_back [] i h l = absurd (omega arith)
word_back (w ∷ ws) zero h l = long_back w l (words_bytes ws)
word_back (w ∷ ws) (suc i) h l = word_later w (words_bytes ws) i ∙ word_back ws i (omega arith) l

eight_back : (ws : List ℕ) (i : ℕ) → i < length ws → take 8 (drop (8 * i) (words_bytes ws)) ≡ long_bytes (get_or ws i 0)
unfolding words_bytes
eight_back [] i h = absurd (omega arith)
eight_back (w ∷ ws) zero h = take_at (long_bytes w) (words_bytes ws) 8 (long_length w)
eight_back (w ∷ ws) (suc i) h =
    let a : 8 * suc i ≡ 8 + 8 * i = omega arith in
    rw (a, ← drop-drop (8 * i) 8 (long_bytes w ++ words_bytes ws), drop_at (long_bytes w) (words_bytes ws) 8 (long_length w)) (eight_back ws i (omega arith))

-- written over the front of an area
module _ (ws area : List ℕ) (all : length ws ≡ 145) (room : 1160 ≤ length area) where
  whole : length (words_bytes ws) ≡ 1160
  whole = bytes_length ws ∙ omega (arith, all)

  pub area_length : length (over (words_bytes ws) area) ≡ length area
  area_length = over_length (words_bytes ws) area (omega (arith, whole))

  pub area_past : drop 1160 (over (words_bytes ws) area) ≡ drop 1160 area
  unfolding over
  area_past = drop_at (words_bytes ws) (drop (length (words_bytes ws)) area) 1160 whole ∙ rw whole

  module _ (i : ℕ) (h : i < 145) where
    front : word_in (over (words_bytes ws) area) i ≡ word_in (words_bytes ws) i
    unfolding word_in over
    front =
        let rest = drop (length (words_bytes ws)) area in
        let a = be32_alike (words_bytes ws ++ rest) (words_bytes ws) (8 * i) (8 * i)
        (λ j l. get_or-append (words_bytes ws) rest 0 (8 * i + j) (omega (arith, whole))) in
        let b = be32_alike (words_bytes ws ++ rest) (words_bytes ws) (8 * i + 4) (8 * i + 4)
        (λ j l. get_or-append (words_bytes ws) rest 0 (8 * i + 4 + j) (omega (arith, whole))) in
        rw (a, b)

    pub area_word : get_or ws i 0 < 2 ^ 64 → word_in (over (words_bytes ws) area) i ≡ get_or ws i 0
    area_word l = front ∙ word_back ws i (omega (arith, all)) l

    pub area_bytes : take 8 (drop (8 * i) (over (words_bytes ws) area)) ≡ long_bytes (get_or ws i 0)
    unfolding over
    area_bytes =
        let rest = drop (length (words_bytes ws)) area in
        let l : 8 * i ≤ length (words_bytes ws) = omega (arith, whole) in
        let m : 8 ≤ length (drop (8 * i) (words_bytes ws)) = simp length-drop (omega (arith, whole)) in
        rw (drop-append-le (8 * i) (words_bytes ws) rest l, take-append-le 8 (drop (8 * i) (words_bytes ws)) rest m) (eight_back ws i (omega (arith, all)))
