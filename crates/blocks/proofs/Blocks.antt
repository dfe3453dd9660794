-- The blocks of a file, and that a file is its blocks.
use Rattle.octets.specs.Standard.{ℕ, zero, suc, ◌+◌, ◌-◌, ◌*◌, ◌<◌, ◌≤◌, Bool, true, false, ◌≡◌, refl, sym, ◌∙◌, ap, List, ◌++◌, arith}
use Rattle.octets.specs.Standard.{add-sub_cancel_left, ltb, length, get_or, take, drop, length-append, length-take, length-drop, take-append-drop}
use Rattle.octets.specs.Standard.{get_or-take, get_or-drop, take-add, take_all, take-append-le, length-take-le, drop-append-le, drop_at, drop-drop}
use Rattle.octets.specs.Standard.{ltb-true, ltb-false}
use Rattle.std.proofs.Common.{w8, Fits}
use lib.Seq.{drop-append-add}
use Rattle.octets.proofs.Numbers.{Bytes}
use Rattle.octets.proofs.Runs.{past_zero}
use Rattle.blocks.specs.Blocks.{block_of, table_of}

pub block_length : (t : List ℕ) (k : ℕ) → 512 * k + 512 ≤ length t → length (block_of t k) ≡ 512
unfolding block_of
block_length t k h = simp (length-take, length-drop) (omega arith)

-- The part that is lent as block k.
pub block_part : (t : List ℕ) (k : ℕ) → take (512 * k + 512 - 512 * k) (drop (512 * k) t) ≡ block_of t k
unfolding block_of
block_part t k = rw add-sub_cancel_left

pub block_whole : (t : List ℕ) (k : ℕ) → 512 * k + 512 ≤ length t → length (take (512 * k + 512 - 512 * k) (drop (512 * k) t)) ≡ 512
block_whole t k h = rw block_part (block_length t k h)

-- A table is its blocks.
pub table_same : (f g : ℕ → List ℕ) (n : ℕ) → ((k : ℕ) → k < n → f k ≡ g k) → table_of f n ≡ table_of g n
unfolding table_of
table_same f g zero h = refl
table_same f g (suc n) h = rw (table_same f g n (λ k a. h k (omega arith)), h n (omega arith))

pub table_front : (t : List ℕ) (n : ℕ) → take (512 * n) t ≡ table_of (block_of t) n
unfolding table_of block_of
table_front t zero = refl
table_front t (suc n) = let e : 512 * suc n ≡ 512 * n + 512 = omega arith in rw (e, take-add (512 * n) 512 t, table_front t n)

pub table_is : (t : List ℕ) (n : ℕ) → length t ≡ 512 * n → t ≡ table_of (block_of t) n
table_is t n h = sym (take_all (512 * n) t (omega arith)) ∙ table_front t n

pub table_length : (f : ℕ → List ℕ) (n : ℕ) → ((k : ℕ) → k < n → length (f k) ≡ 512) → length (table_of f n) ≡ 512 * n
unfolding table_of
table_length f zero h = refl
table_length f (suc n) h =
    let a : length (table_of f n) ≡ 512 * n = table_length f n (λ k l. h k (omega arith)) in
    let b : length (f n) ≡ 512 = h n (omega arith) in
    simp length-append (omega arith)

pub table_block : (f : ℕ → List ℕ) (n : ℕ) → ((k : ℕ) → k < n → length (f k) ≡ 512) → (k : ℕ) → k < n → block_of (table_of f n) k ≡ f k
unfolding table_of block_of
table_block f zero h k l = absurd (omega arith)
table_block f (suc n) h k l = go (ltb k n) refl (λ m. table_block f n (λ j i. h j (omega arith)) k m)
  where
    size : length (table_of f n) ≡ 512 * n
    size = table_length f n (λ j i. h j (omega arith))

    go : (x : Bool) → ltb k n ≡ x → (k < n → take 512 (drop (512 * k) (table_of f n)) ≡ f k) → take 512 (drop (512 * k) (table_of f n ++ f n)) ≡ f k
    go true e r =
        let m : k < n = ltb-true k n e in
        rw (
          drop-append-le (512 * k) (table_of f n) (f n) (omega (arith, size)),
          take-append-le 512 (drop (512 * k) (table_of f n)) (f n) (rw length-drop (omega (arith, size))),
        )
        (r m)
    go false e r =
        let m : k ≡ n = omega (arith, ltb-false k n e) in
        rw (m, drop_at (table_of f n) (f n) (512 * n) size, take_all 512 (f n) (omega (arith, h n (omega arith))))

-- The blocks at the front of a longer list, those of a list cut after n, and those behind a front of n that another list has there.
pub front_block : (t rest : List ℕ) (j : ℕ) → 512 * j + 512 ≤ length t → block_of (t ++ rest) j ≡ block_of t j
unfolding block_of
front_block t rest j h =
    rw (drop-append-le (512 * j) t rest (omega arith), take-append-le 512 (drop (512 * j) t) rest (rw length-drop (omega arith)))

pub take_block : (t : List ℕ) (n j : ℕ) → j < n → block_of (take (512 * n) t) j ≡ block_of t j
take_block t n j h = go (ltb (length t) (512 * n)) refl
  where
    go : (x : Bool) → ltb (length t) (512 * n) ≡ x → block_of (take (512 * n) t) j ≡ block_of t j
    go true e = ap (λ (s : List ℕ). block_of s j) (take_all (512 * n) t (omega (arith, ltb-true (length t) (512 * n) e)))
    go false e =
        let l : length (take (512 * n) t) ≡ 512 * n = length-take-le (512 * n) t (ltb-false _ _ e) in
        sym (front_block (take (512 * n) t) (drop (512 * n) t) j (omega arith)) ∙ ap (λ (s : List ℕ). block_of s j) (take-append-drop (512 * n) t)

module _ (a : List ℕ) (n : ℕ) (t : List ℕ) (size : length a ≡ 512 * n) where
  pub past_block : (j : ℕ) → n ≤ j → block_of (a ++ drop (512 * n) t) j ≡ block_of t j
  unfolding block_of
  past_block j h =
      let e : 512 * j ≡ length a + 512 * (j - n) = omega arith in
      let f : 512 * n + 512 * (j - n) ≡ 512 * j = omega arith in
      ap (λ (m : ℕ). take 512 (drop m (a ++ drop (512 * n) t))) e
      ∙ ap (take 512) (drop-append-add a (drop (512 * n) t) (512 * (j - n)) ∙ drop-drop (512 * (j - n)) (512 * n) t ∙ ap (λ (m : ℕ). drop m t) f)

  pub front_length : 512 * n ≤ length t → length (a ++ drop (512 * n) t) ≡ length t
  front_length h = length-append a (drop (512 * n) t) ∙ omega (arith, length-drop (512 * n) t)

-- A block of bytes.
pub block_bytes : (t : List ℕ) → Bytes t → (k : ℕ) → Bytes (block_of t k)
unfolding block_of
block_bytes t bytes k i = go (ltb i 512) refl
  where
    go : (x : Bool) → ltb i 512 ≡ x → Fits w8 (get_or (take 512 (drop (512 * k) t)) i 0)
    go true e = rw (get_or-take 512 (drop (512 * k) t) i 0 (ltb-true i 512 e), get_or-drop (512 * k) t i 0) (bytes (512 * k + i))
    go false e =
        let l : length (take 512 (drop (512 * k) t)) ≤ i = simp length-take (omega (arith, ltb-false i 512 e)) in
        rw (← past_zero (take 512 (drop (512 * k) t)) i l) (omega arith)
