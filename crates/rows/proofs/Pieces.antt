-- A block in pieces: runs of bytes, of words, names in their fields.
use Rattle.octets.specs.Standard.{ℕ, zero, suc, ◌+◌, ◌-◌, ◌*◌, ◌/◌, ◌%◌, ◌<◌, ◌≤◌, true, ◌≡◌, refl, sym, ◌∙◌, ap, arith, add-one}
use Rattle.octets.specs.Standard.{List, [], ◌∷◌, ◌++◌, length, get_or, take, drop, replicate, length-append}
use Rattle.octets.specs.Standard.{length-take, length-drop, length-take-le, length-replicate, get_or-replicate, get_or-take, get_or-drop, ext_get_or, drop-cons}
use Rattle.octets.specs.Standard.{drop-drop}
use Rattle.octets.specs.Standard.{take-add, shr-shr, mod-eq_of_lt}
use mir.Syntax.{w8}
use mir.Val.{Fits}
use Rattle.octets.specs.Number.{four, be16_at, be32_at}
use Rattle.octets.specs.Run.{zero_between}
use Rattle.octets.proofs.Numbers.{Bytes}
use Rattle.octets.proofs.Runs.{zero_at}
use Rattle.rows.specs.Block.{padded, half_bytes, word_bytes, words_bytes}

-- The n elements from a place on, one by one.
abbrev pub listed : List ℕ → ℕ → ℕ → List ℕ
listed s at zero = []
listed s at (suc n) = get_or s at 0 ∷ listed s (suc at) n

pub part_listed : (s : List ℕ) (at n : ℕ) → at + n ≤ length s → take n (drop at s) ≡ listed s at n
part_listed s at zero h = refl
part_listed s at (suc n) h = rw (drop-cons s at 0 (omega arith)) (ap (λ (l : List ℕ). get_or s at 0 ∷ l) (part_listed s (suc at) n (omega arith)))

-- A part in two.
pub part_two : (s : List ℕ) (at m n : ℕ) → take (m + n) (drop at s) ≡ take m (drop at s) ++ take n (drop (at + m) s)
part_two s at m n = take-add m n (drop at s) ∙ rw (drop-drop m at s)

-- Zeros.
pub part_zeros : (s : List ℕ) (from n : ℕ) → from + n ≤ length s → zero_between s from (from + n) ≡ true → take n (drop from s) ≡ replicate n 0
part_zeros s from n h e =
    ext_get_or 0 (take n (drop from s)) (replicate n 0) (simp (length-take, length-drop, length-replicate) (omega arith))
    (λ i l.
    let k : i < n = omega (arith, simp length-take at l) in
    rw (
      get_or-take n (drop from s) i 0 k,
      get_or-drop from s i 0,
      zero_at s from (from + n) e (from + i) (omega arith)
          (omega arith),
      get_or-replicate {A = ℕ} n i 0 0 k,
    ))

-- A name in its field.
pub part_padded : (s : List ℕ) (at m n : ℕ) → m ≤ n → at + n ≤ length s → zero_between s (at + m) (at + n) ≡ true
    → padded n (take m (drop at s)) ≡ take n (drop at s)
unfolding padded
part_padded s at m n h l e =
    let d : n ≡ m + (n - m) = omega arith in
    let size : length (take m (drop at s)) ≡ m = length-take-le m (drop at s) (omega (arith, length-drop at s)) in
    let q : at + m + (n - m) ≡ at + n = omega arith in
    let z : take (n - m) (drop (at + m) s) ≡ replicate (n - m) 0 = part_zeros s (at + m) (n - m) (omega arith) (rw q e) in
    rw (size, ← z) (sym (ap (λ (k : ℕ). take k (drop at s)) d ∙ part_two s at m (n - m)))

pub padded_length : (n : ℕ) (name : List ℕ) → length name ≤ n → length (padded n name) ≡ n
unfolding padded
padded_length n name h = simp (length-append, length-replicate) (omega arith)

-- Numbers of 16 and 32 bits that stand in bytes.
bytes_four : (a b c d : ℕ) {w : ℕ} → Fits w8 a → Fits w8 b → Fits w8 c → Fits w8 d → w ≡ four a b c d → word_bytes w ≡ a ∷ b ∷ c ∷ d ∷ []
bytes_four a b c d {w} h i j k e =
    let p : w / 16777216 % 256 ≡ a = omega arith in
    let q : w / 65536 % 256 ≡ b = omega arith in
    let r : w / 256 % 256 ≡ c = omega arith in
    let t : w % 256 ≡ d = omega arith in
    rw (p, q, r, t)

module _ (s : List ℕ) (at : ℕ) (bytes : Bytes s) where
  pub word_listed : word_bytes (be32_at s at) ≡ listed s at 4
  unfolding be32_at
  word_listed =
      let p : at + 1 ≡ suc at = omega arith in
      let q : at + 2 ≡ suc (suc at) = omega arith in
      let r : at + 3 ≡ suc (suc (suc at)) = omega arith in
      bytes_four _ _ _ _ (bytes at) (bytes (at + 1)) (bytes (at + 2)) (bytes (at + 3)) refl ∙ rw (p, q, r)

  pub half_listed : half_bytes (be16_at s at) ≡ listed s at 2
  unfolding be16_at
  half_listed =
      let x : ℕ = get_or s at 0 in
      let y : ℕ = get_or s (at + 1) 0 in
      let p : (x * 256 + y) / 256 % 256 ≡ x = omega (arith, bytes at, bytes (at + 1)) in
      let q : (x * 256 + y) % 256 ≡ y = omega (arith, bytes (at + 1)) in
      rw (p, q, add-one at)

-- A run of words.
abbrev pub words_from : List ℕ → ℕ → ℕ → List ℕ
words_from s at zero = []
words_from s at (suc n) = be32_at s at ∷ words_from s (at + 4) n

pub words_part : (s : List ℕ) (at n : ℕ) → Bytes s → at + 4 * n ≤ length s → words_bytes (words_from s at n) ≡ take (4 * n) (drop at s)
unfolding words_bytes
words_part s at zero bytes h = refl
words_part s at (suc n) bytes h =
    let d : 4 * suc n ≡ 4 + 4 * n = omega arith in
    ap (λ (l : List ℕ). l ++ words_bytes (words_from s (at + 4) n)) (word_listed s at bytes ∙ sym (part_listed s at 4 (omega arith)))
    ∙ ap (λ (l : List ℕ). take 4 (drop at s) ++ l) (words_part s (at + 4) n bytes (omega arith))
    ∙ sym (ap (λ (k : ℕ). take k (drop at s)) d ∙ part_two s at 4 (4 * n))

-- A number that fits, made of its bytes again.
pub word_made : (w : ℕ) → w ≤ 4294967295 → four (w / 16777216 % 256) (w / 65536 % 256) (w / 256 % 256) (w % 256) ≡ w
word_made w h =
    let q : w / 16777216 < 256 = omega arith in
    omega (arith, shr-shr w 8 8, shr-shr w 16 8, mod-eq_of_lt q)

pub half_made : (w : ℕ) → w ≤ 65535 → w / 256 % 256 * 256 + w % 256 ≡ w
half_made w h = omega arith

-- Three bits, and a number of three bits.
pub bits_made : (x : ℕ) → x ≤ 7 → x % 2 + 2 * (x / 2 % 2) + 4 * (x / 4 % 2) ≡ x
bits_made x h = let q : x / 4 < 2 = omega arith in omega (arith, shr-shr x 1 1, mod-eq_of_lt q)

pub bits_read : (a b c : ℕ) → a ≤ 1 → b ≤ 1 → c ≤ 1
    → ((a + 2 * b + 4 * c) % 2 ≡ a) × ((a + 2 * b + 4 * c) / 2 % 2 ≡ b) × ((a + 2 * b + 4 * c) / 4 % 2 ≡ c)
bits_read a b c h i j =
    let q : (a + 2 * b + 4 * c) / 2 ≡ b + 2 * c = omega arith in
    let r : (a + 2 * b + 4 * c) / 4 ≡ c = omega arith in
    (omega arith, rw q (omega arith), rw r (omega arith))

pub words_length : (ws : List ℕ) → length (words_bytes ws) ≡ 4 * length ws
unfolding words_bytes
words_length [] = refl
words_length (w ∷ ws) = omega (arith, words_length ws)
