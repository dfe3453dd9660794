-- The first unused vectors: the turns of the scan that chooses them.
use Rattle.octets.specs.Standard.{ℕ, zero, suc, ◌+◌, ◌-◌, ◌/◌, ◌<◌, ◌≤◌, Bool, true, false, ◌≡◌, refl, sym, ◌∙◌, ap, List, [], ◌∷◌, ◌++◌, append-nil}
use Rattle.octets.specs.Standard.{append_assoc, arith, add-one, length, get_or, take, drop, set, replicate, length-drop, length-append, length-take-le}
use Rattle.octets.specs.Standard.{eqb, eq-eqb, ne_eqb}
use Rattle.octets.specs.Name.{same}
use Rattle.blocks.specs.Blocks.{block_of}
use Rattle.vectors.specs.VectorBlock.{vector_of, card_of}
use Rattle.vectors.specs.Chosen.{first_ones, unused_here, unused_at, unused_of, none_sent, packed}
use Rattle.vectors.specs.Sendable.{sent_also}
use Rattle.vectors.specs.declared.choice.Sent.{Sent}

-- the part of a block that is lent
pub part_lent : (s : List ℕ) (at n : ℕ) → take (at + n - at) (drop at s) ≡ take n (drop at s)
part_lent s at n = let i : at + n - at ≡ n = omega arith in rw i

pub part_size : (s : List ℕ) (at n : ℕ) {size : ℕ} → length s ≡ size → at + n ≤ size → length (take (at + n - at) (drop at s)) ≡ n
part_size s at n e h = let i : at + n - at ≡ n = omega arith in rw i (length-take-le n (drop at s) (omega (arith, length-drop at s)))

module _ (b name : List ℕ) where
  pub unused_named : {n : List ℕ} {x : Bool} → get_or b 1 0 ≡ 0 → n ≡ card_of b → x ≡ same n name → x ≡ unused_here b name
  unfolding unused_here vector_of
  unused_named e f g = rw (eq-eqb _ _ e, ← f) g

  pub used_not : (get_or b 1 0 ≡ 0 → ⊥) → eqb (get_or b 1 0) 0 ≡ unused_here b name
  unfolding unused_here vector_of
  used_not n = rw (ne_eqb _ _ n)

-- The block at hand, asked.
pub unused_block : (b name v : List ℕ) (k : ℕ) {x : Bool} → b ≡ block_of v k → x ≡ unused_here b name → x ≡ unused_at v name k
unfolding unused_at
unused_block b name v k e f = rw (← e) f

-- One block more in the array.
set_packed : (ks : List ℕ) (m k : ℕ) → set (ks ++ replicate (suc m) 0) (length ks) k ≡ (ks ++ (k ∷ [])) ++ replicate m 0
set_packed [] m k = refl
set_packed (j ∷ ks) m k = ap (j ∷◌) (set_packed ks m k)

also_packed : (ks : List ℕ) (k : ℕ) → length ks < 16
    → record { blocks = set (packed ks).blocks (packed ks).count k; count = (packed ks).count + 1 } ≡ packed (ks ++ (k ∷ []))
unfolding packed
also_packed ks k h =
    let i : 16 - length ks ≡ suc (16 - (length ks + 1)) = omega arith in
    let l : length (ks ++ (k ∷ [])) ≡ length ks + 1 = length-append ks (k ∷ []) in
    rw (l, i, set_packed ks (16 - (length ks + 1)) k)

ones_none : (p : ℕ → Bool) (n k : ℕ) → first_ones p n k 0 ≡ []
unfolding first_ones
ones_none p zero k = refl
ones_none p (suc n) k = refl

-- What the scan has found, and what is left of it from block k on.
pub record Left (v name : List ℕ) (most : ℕ) (s : Sent) (k : ℕ) : Type 0 where
  pub ones : List ℕ
  pub packs : s ≡ packed ones
  pub few : s.count ≤ most
  pub whole : unused_of v name most ≡ ones ++ first_ones (unused_at v name) (length v / 512 - k) k (most - s.count)

module _ (v name : List ℕ) (most : ℕ) where
  pub left_all : (s : Sent) → s ≡ none_sent → Left v name most s 0
  unfolding unused_of packed
  left_all s e =
      let i : length v / 512 - 0 ≡ length v / 512 = omega arith in
      let j : most - 0 ≡ most = omega arith in
      record { ones = []; packs = e; few = rw e (omega arith); whole = rw (e, i, j) }

  module _ (s : Sent) (k : ℕ) (left : Left v name most s k) where
    count_is : s.count ≡ length left.ones
    unfolding packed
    count_is = rw left.packs

    pub left_none : length v / 512 ≤ k → s ≡ packed (unused_of v name most)
    unfolding first_ones
    left_none h = let i : length v / 512 - k ≡ 0 = omega arith in left.packs ∙ rw (left.whole, i, append-nil left.ones)

    pub left_full : most ≤ s.count → s ≡ packed (unused_of v name most)
    left_full h =
        let i : most - s.count ≡ 0 = omega arith in
        left.packs ∙ rw (left.whole, i, ones_none (unused_at v name) (length v / 512 - k) k, append-nil left.ones)

    module _ {x : Bool} (h : k < length v / 512) (n : s.count < most) (is : x ≡ unused_at v name k) where
      i : length v / 512 - k ≡ suc (length v / 512 - (k + 1))
      i = omega arith

      j : most - s.count ≡ suc (most - (s.count + 1))
      j = omega arith

      pub left_taken : (s' : Sent) → most ≤ 16 → x ≡ true → s' ≡ sent_also s k → Left v name most s' (k + 1)
      unfolding first_ones sent_also packed
      left_taken s' m e g =
          let q : unused_at v name k ≡ true = sym is ∙ e in
          rw g
          (record {
            ones = left.ones ++ (k ∷ []);
            packs = rw left.packs (also_packed left.ones k (omega (arith, count_is)));
            few = omega arith;
            whole = rw (left.whole, i, j, q, add-one k) (sym (append_assoc left.ones (k ∷ []) _));
          })

      pub left_passed : x ≡ false → Left v name most s (k + 1)
      unfolding first_ones
      left_passed e =
          let q : unused_at v name k ≡ false = sym is ∙ e in
          record { ones = left.ones; packs = left.packs; few = left.few; whole = rw (left.whole, i, j, q, add-one k) }
