-- Laws of numbers in bytes: in a part of a list, past a store, and read back.
use Rattle.octets.specs.Standard.{ℕ, zero, suc, ◌+◌, ◌*◌, ◌/◌, ◌%◌, ◌^◌, ◌<◌, ◌≤◌, Bool, true, ◌&&◌, ◌≡◌, refl, sym, ap, ◌∙◌, List, [], ◌∷◌}
use Rattle.octets.specs.Standard.{◌-◌, arith, mod-eq_of_lt, add_assoc, add-zero, zero-add, ltb, shr-shr, length, get_or, set, take, drop}
use Rattle.octets.specs.Standard.{get_or-set_other, get_or-drop, get_or-take, set-get_or, ltb-true, put_mid}
use Rattle.std.proofs.Common.{w8, Fits}
use Rattle.octets.specs.Number.{four, be16_at, be24_at, be32_at, be64_at, put_be24, put_be32}
use Rattle.octets.specs.Run.{put_name}
use Rattle.octets.proofs.All.{and_left, and_right}
use Rattle.octets.proofs.Runs.{name_here, mid_name}

-- What a list of bytes has at every place.
abbrev pub Bytes : List ℕ → Type 0
Bytes s = (i : ℕ) → Fits w8 (get_or s i 0)

-- as a test, for a list that is written out
unfoldable pub all_bytes : List ℕ → Bool
all_bytes [] = true
all_bytes (x ∷ l) = ltb x 256 && all_bytes l

pub are_bytes : (l : List ℕ) → all_bytes l ≡ true → Bytes l
unfolding all_bytes
are_bytes [] e i = omega arith
are_bytes (x ∷ l) e zero = omega (arith, ltb-true x 256 (and_left (ltb x 256) _ e))
are_bytes (x ∷ l) e (suc i) = are_bytes l (and_right (ltb x 256) _ e) i

-- The number that n bytes make, the first the highest: what holds of every width is proved of it.
abbrev pub be_at : ℕ → List ℕ → ℕ → ℕ
be_at zero s at = 0
be_at (suc n) s at = be_at n s at * 256 + get_or s (at + n) 0

be_alike : (n : ℕ) (x y : List ℕ) (a b : ℕ) → ((j : ℕ) → j < n → get_or x (a + j) 0 ≡ get_or y (b + j) 0) → be_at n x a ≡ be_at n y b
be_alike zero x y a b h = refl
be_alike (suc n) x y a b h = rw (be_alike n x y a b (λ j l. h j (omega arith)), h n (omega arith))

be16_is : (s : List ℕ) (at : ℕ) → be16_at s at ≡ be_at 2 s at
unfolding be16_at
be16_is s at = rw add-zero (omega arith)

be24_is : (s : List ℕ) (at : ℕ) → be24_at s at ≡ be_at 3 s at
unfolding be24_at
be24_is s at = rw add-zero (omega arith)

be32_is : (s : List ℕ) (at : ℕ) → be32_at s at ≡ be_at 4 s at
unfolding be32_at
be32_is s at = rw add-zero (omega arith)

pub be64_is : (s : List ℕ) (at : ℕ) → be64_at s at ≡ be_at 8 s at
unfolding be64_at
be64_is s at = rw add-zero (omega arith)

-- Where the bytes are alike, so are the numbers.
module _ (x y : List ℕ) (a b : ℕ) where
  pub be16_alike : ((j : ℕ) → j < 2 → get_or x (a + j) 0 ≡ get_or y (b + j) 0) → be16_at x a ≡ be16_at y b
  be16_alike h = be16_is x a ∙ be_alike 2 x y a b h ∙ sym (be16_is y b)

  pub be24_alike : ((j : ℕ) → j < 3 → get_or x (a + j) 0 ≡ get_or y (b + j) 0) → be24_at x a ≡ be24_at y b
  be24_alike h = be24_is x a ∙ be_alike 3 x y a b h ∙ sym (be24_is y b)

  pub be32_alike : ((j : ℕ) → j < 4 → get_or x (a + j) 0 ≡ get_or y (b + j) 0) → be32_at x a ≡ be32_at y b
  be32_alike h = be32_is x a ∙ be_alike 4 x y a b h ∙ sym (be32_is y b)

  pub be64_alike : ((j : ℕ) → j < 8 → get_or x (a + j) 0 ≡ get_or y (b + j) 0) → be64_at x a ≡ be64_at y b
  be64_alike h = be64_is x a ∙ be_alike 8 x y a b h ∙ sym (be64_is y b)

-- A number of a part is a number of the whole.
pub be24_drop : (s : List ℕ) (at i : ℕ) → be24_at (drop at s) i ≡ be24_at s (at + i)
be24_drop s at i = be24_alike (drop at s) s i (at + i) (λ j l. rw (get_or-drop, add_assoc))

pub be32_drop : (s : List ℕ) (at i : ℕ) → be32_at (drop at s) i ≡ be32_at s (at + i)
be32_drop s at i = be32_alike (drop at s) s i (at + i) (λ j l. rw (get_or-drop, add_assoc))

pub be24_take : (s : List ℕ) (n i : ℕ) → i + 3 ≤ n → be24_at (take n s) i ≡ be24_at s i
be24_take s n i h = be24_alike (take n s) s i i (λ j l. get_or-take n s (i + j) 0 (omega arith))

pub be32_take : (s : List ℕ) (n i : ℕ) → i + 4 ≤ n → be32_at (take n s) i ≡ be32_at s i
be32_take s n i h = be32_alike (take n s) s i i (λ j l. get_or-take n s (i + j) 0 (omega arith))

-- A store past a word leaves the word.
pub word_set : (s : List ℕ) (i v at : ℕ) → at + 4 ≤ i → be32_at (set s i v) at ≡ be32_at s at
word_set s i v at h = be32_alike (set s i v) s at at (λ j l. get_or-set_other s i (at + j) v 0 (omega arith))

-- A number that is put is the name of its bytes that is put.
abbrev pub bytes24 : ℕ → List ℕ
bytes24 w = w / 65536 % 256 ∷ w / 256 % 256 ∷ w % 256 ∷ []

abbrev pub bytes32 : ℕ → List ℕ
bytes32 w = w / 16777216 % 256 ∷ bytes24 w

pub put24_name : (s : List ℕ) (at w : ℕ) → put_be24 s at w ≡ put_name s at (bytes24 w) 3
unfolding put_be24 put_name
put24_name s at w = rw add-zero

pub put32_name : (s : List ℕ) (at w : ℕ) → put_be32 s at w ≡ put_name s at (bytes32 w) 4
unfolding put_be32 put_name
put32_name s at w = rw add-zero

-- A part of a list with a number's bytes in its place.
pub put24_mid : (s : List ℕ) (at w : ℕ) {v : List ℕ} → at + 3 ≤ length s → v ≡ bytes24 w → put_mid at (at + 3 - at) s v ≡ put_be24 s at w
put24_mid s at w h e = rw e (mid_name s at (bytes24 w) (bytes24 w) 3 h refl (λ i l. refl) (at + 3 - at) (omega arith) ∙ sym (put24_name s at w))

pub put32_mid : (s : List ℕ) (at w : ℕ) {v : List ℕ} → at + 4 ≤ length s → v ≡ bytes32 w → put_mid at (at + 4 - at) s v ≡ put_be32 s at w
put32_mid s at w h e = rw e (mid_name s at (bytes32 w) (bytes32 w) 4 h refl (λ i l. refl) (at + 4 - at) (omega arith) ∙ sym (put32_name s at w))

put_at : (s : List ℕ) (at : ℕ) (name : List ℕ) (n : ℕ) → at + n ≤ length s → (j : ℕ) → j < n → get_or (put_name s at name n) (at + j) 0 ≡ get_or name (0 + j) 0
put_at s at name n h j l = name_here s at name n j h l ∙ ap (λ (k : ℕ). get_or name k 0) (sym (zero-add j))

-- A number below 2^24 is what its three bytes make; below 2^32, its four.
made24 : (w : ℕ) → w < 16777216 → be24_at (bytes24 w) 0 ≡ w
unfolding be24_at
made24 w h = omega arith

made32 : (w : ℕ) → w < 2 ^ 32 → be32_at (bytes32 w) 0 ≡ w
unfolding be32_at
made32 w h =
    let q : w / 16777216 < 256 = omega arith in
    omega (arith, shr-shr w 8 8, shr-shr w 16 8, mod-eq_of_lt q)

-- A number that is put stands there.
pub field_put : (s : List ℕ) (at w : ℕ) → at + 3 ≤ length s → w < 16777216 → be24_at (put_be24 s at w) at ≡ w
field_put s at w h k =
    ap (λ (l : List ℕ). be24_at l at) (put24_name s at w) ∙ be24_alike (put_name s at (bytes24 w) 3) (bytes24 w) at 0 (put_at s at (bytes24 w) 3 h) ∙ made24 w k

pub word_put : (s : List ℕ) (at w : ℕ) → at + 4 ≤ length s → w < 2 ^ 32 → be32_at (put_be32 s at w) at ≡ w
word_put s at w h k =
    ap (λ (l : List ℕ). be32_at l at) (put32_name s at w) ∙ be32_alike (put_name s at (bytes32 w) 4) (bytes32 w) at 0 (put_at s at (bytes32 w) 4 h) ∙ made32 w k

-- A word of bytes, put where it stands, leaves the list as it was.
digits : (a b c d : ℕ) {w : ℕ} → Fits w8 a → Fits w8 b → Fits w8 c → Fits w8 d → w ≡ four a b c d
    → (w / 16777216 % 256 ≡ a) × (w / 65536 % 256 ≡ b) × (w / 256 % 256 ≡ c) × (w % 256 ≡ d)
digits a b c d h i j k e = (omega arith, omega arith, omega arith, omega arith)

module _ (s : List ℕ) (at : ℕ) (bytes : Bytes s) where
  pub word_held : put_be32 s at (be32_at s at) ≡ s
  unfolding put_be32 be32_at
  word_held =
      let d = digits _ _ _ _ (bytes at) (bytes (at + 1)) (bytes (at + 2)) (bytes (at + 3)) refl in
      rw (d.0, set-get_or s at 0, d.1, set-get_or s (at + 1) 0, d.2, set-get_or s (at + 2) 0, d.3) (set-get_or s (at + 3) 0)

  pub word_lt : be32_at s at < 2 ^ 32
  unfolding be32_at
  word_lt = omega (arith, bytes at, bytes (at + 1), bytes (at + 2), bytes (at + 3))
