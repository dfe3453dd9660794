-- Laws of the mask: what a field holds past its first bytes, eight bytes at a time.
use Rattle.octets.specs.Standard.{ℕ, zero, suc, ◌+◌, ◌-◌, ◌*◌, ◌<◌, ◌≤◌, Bool, true, false, ◌&&◌, and-true, and_assoc, ◌≡◌, refl, ◌∙◌}
use Rattle.octets.specs.Standard.{List, arith, bit_and, bit_or, and_block, and_mask, and_zero_r, eqb, ltb, get_or, length}
use Rattle.octets.specs.Standard.{ltb-true}
use Rattle.octets.specs.Standard.{ltb-false}
use Rattle.octets.specs.All.{all_below}
use Rattle.octets.specs.Number.{eight, le64_at}
use Rattle.octets.specs.Standard.{get_or-append, get_or-append-add, get_or-drop, length-replicate, drop, replicate, get_or-replicate, sym, ap, ◌++◌}
use Rattle.octets.specs.Run.{zeros, zero_between, Mask, Wrote, over}
use Rattle.octets.proofs.Numbers.{Bytes}
use Rattle.octets.proofs.Writes.{over_length}
use Rattle.octets.proofs.Runs.{or_zero, eight_zero, zeros_more}

-- The number that n bytes make, the first the lowest: byte by byte under a mask.
abbrev number : ℕ → (ℕ → ℕ) → ℕ
number zero f = 0
number (suc n) f = number n (λ (j : ℕ). f (suc j)) * 256 + f 0

and_number : (n : ℕ) (f g : ℕ → ℕ) → ((j : ℕ) → f j < 256) → ((j : ℕ) → g j < 256)
    → bit_and (number n f) (number n g) ≡ number n (λ (j : ℕ). bit_and (f j) (g j))
and_number zero f g hf hg = refl
and_number (suc n) f g hf hg =
    and_block 8 (number n (λ (j : ℕ). f (suc j))) (number n (λ (j : ℕ). g (suc j))) (f 0) (g 0) (hf 0) (hg 0)
    ∙ rw (and_number n (λ (j : ℕ). f (suc j)) (λ (j : ℕ). g (suc j)) (λ j. hf (suc j)) (λ j. hg (suc j)))

eight_number : (f : ℕ → ℕ) → eight (f 7) (f 6) (f 5) (f 4) (f 3) (f 2) (f 1) (f 0) ≡ number 8 f
eight_number f = omega arith

le_number : (s : List ℕ) (at : ℕ) → le64_at s at ≡ number 8 (λ (j : ℕ). get_or s (at + j) 0)
unfolding le64_at
le_number s at = let k : at + 0 ≡ at = omega arith in rw k (omega arith)

-- Eight bytes under a mask are zero exactly if each is zero under its own.
and_zero : (s m : List ℕ) (p q : ℕ) → Bytes s → Bytes m
    → eqb (bit_and (le64_at s p) (le64_at m q)) 0 ≡ all_below (λ (j : ℕ). eqb (bit_and (get_or s (p + j) 0) (get_or m (q + j) 0)) 0) 8
and_zero s m p q hs hm =
    let f : ℕ → ℕ = λ (j : ℕ). get_or s (p + j) 0 in
    let g : ℕ → ℕ = λ (j : ℕ). get_or m (q + j) 0 in
    let h : ℕ → ℕ = λ (j : ℕ). bit_and (f j) (g j) in
    rw (le_number s p, le_number m q, and_number 8 f g (λ j. omega (arith, hs (p + j))) (λ j. omega (arith, hm (q + j))), ← eight_number h) (eight_zero h)

-- The turns of the loop over a field past its first n bytes, under the mask from its byte 128 - n on.
module _ (s m : List ℕ) (at n from : ℕ) (bytes : Bytes s) (mask : Mask m) (few : n ≤ 128) (is : from ≡ 128 - n) where
  abbrev past : ℕ → Bool
  past j = zeros s (at + n) (at + j - (at + n))

  byte_more : (j : ℕ) → j < 128 → (past j && eqb (bit_and (get_or s (at + j) 0) (get_or m (from + j) 0)) 0) ≡ past (suc j)
  byte_more j h = go (ltb j n) refl
    where
      go : (b : Bool) → ltb j n ≡ b → (past j && eqb (bit_and (get_or s (at + j) 0) (get_or m (from + j) 0)) 0) ≡ past (suc j)
      go true f =
          let l : j < n = ltb-true j n f in
          let k : at + suc j - (at + n) ≡ at + j - (at + n) = omega arith in
          rw (mask.clear (from + j) (omega arith), and_zero_r, and-true, k)
      go false f =
          let l : n ≤ j = ltb-false j n f in
          let k : at + suc j ≡ at + j + 1 = omega arith in
          let w : bit_and (get_or s (at + j) 0) 255 ≡ get_or s (at + j) 0 = and_mask (get_or s (at + j) 0) 8 ∙ omega (arith, bytes (at + j)) in
          rw (mask.full (from + j) (omega arith) (omega arith), w, k) (zeros_more s (at + n) (at + j) (omega arith) refl)

  eight_more : (i k : ℕ) → 8 * i + k ≤ 128
      → (past (8 * i) && all_below (λ (j : ℕ). eqb (bit_and (get_or s (at + 8 * i + j) 0) (get_or m (from + 8 * i + j) 0)) 0) k) ≡ past (8 * i + k)
  unfolding all_below
  eight_more i zero h = let e : 8 * i + 0 ≡ 8 * i = omega arith in rw (e, and-true)
  eight_more i (suc k) h =
      let e : 8 * i + suc k ≡ suc (8 * i + k) = omega arith in
      let p : at + 8 * i + k ≡ at + (8 * i + k) = omega arith in
      let q : from + 8 * i + k ≡ from + (8 * i + k) = omega arith in
      rw (e, ← byte_more (8 * i + k) (omega arith), ← eight_more i k (omega arith), p, q, and_assoc)

  pub past_more : (i bits x y : ℕ) → Bytes m → i < 16 → eqb bits 0 ≡ past (8 * i) → x ≡ le64_at s (at + 8 * i) → y ≡ le64_at m (from + 8 * i)
      → eqb (bit_or bits (bit_and x y)) 0 ≡ past (8 * (i + 1))
  past_more i bits x y hm h e ex ey =
      let k : 8 * (i + 1) ≡ 8 * i + 8 = omega arith in
      rw (or_zero bits (bit_and x y), e, ex, ey, and_zero s m (at + 8 * i) (from + 8 * i) bytes hm, k) (eight_more i 8 (omega arith))

pub past_all : (s : List ℕ) (at n i k bits : ℕ) → i ≤ k → k ≤ i → eqb bits 0 ≡ zeros s (at + n) (at + 8 * i - (at + n))
    → eqb bits 0 ≡ zero_between s (at + n) (at + 8 * k)
unfolding zero_between
past_all s at n i k bits a b e = let j : i ≡ k = omega arith in rw (← j) e

-- The mask: zeros written over the front of bytes whose bits are all set.
pub mask_made : {m : List ℕ} {r : ℕ} → Wrote (replicate 128 0) (replicate 256 255) m r → Mask m
unfolding over
mask_made {m} p =
    let z : length (replicate {A = ℕ} 128 0) ≡ 128 = length-replicate {A = ℕ} 128 0 in
    let o : length (replicate {A = ℕ} 256 255) ≡ 256 = length-replicate {A = ℕ} 256 255 in
    let rest : List ℕ = drop (length (replicate {A = ℕ} 128 0)) (replicate {A = ℕ} 256 255) in
    record {
      size = ap length p.bytes ∙ over_length (replicate 128 0) (replicate 256 255) (omega (arith, z, o)) ∙ o;
      clear = λ i h.
          let k : i < length (replicate {A = ℕ} 128 0) = omega (arith, z, h) in
          ap (λ (x : List ℕ). get_or x i 0) p.bytes ∙ get_or-append (replicate 128 0) rest 0 i k ∙ get_or-replicate {A = ℕ} 128 i 0 0 h;
      full = λ i g h.
          let j : ℕ = length (replicate {A = ℕ} 128 0) + (i - 128) in
          let k : j ≡ i = omega (arith, z, g) in
          let d : j < 256 = omega (arith, k, h) in
          ap (λ (x : List ℕ). get_or x i 0) p.bytes
          ∙ ap (λ (n : ℕ). get_or (replicate 128 0 ++ rest) n 0) (sym k)
          ∙ get_or-append-add (replicate 128 0) rest (i - 128) 0
          ∙ rw get_or-drop (get_or-replicate {A = ℕ} 256 j 255 0 d);
    }
