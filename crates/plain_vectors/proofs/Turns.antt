-- The turns of the scan that chooses vectors: those of `vectors/Choosing`, and those past enough.
use Rattle.octets.specs.Standard.{ℕ, zero, suc, ◌+◌, ◌-◌, ◌/◌, ◌<◌, ◌≤◌, Bool, true, false, ◌&&◌, cond, ◌≡◌, refl, sym, ◌∙◌, ap, List, [], ◌++◌, arith, eqb}
use Rattle.octets.specs.Standard.{leb}
use Rattle.octets.specs.Standard.{length, get_or, le-leb, lt-leb, leb-true, leb-false}
use Rattle.octets.specs.Name.{same}
use Rattle.blocks.specs.Blocks.{block_of}
use Rattle.vectors.specs.VectorBlock.{vector_of, card_of}
use Rattle.vectors.specs.Chosen.{first_ones, unused_here, unused_at}
use Rattle.vectors.specs.Sendable.{sent_also}
use Rattle.vectors.specs.declared.choice.Sent.{Sent}
use Rattle.vectors.proofs.Choosing.{Left, left_taken, left_passed}
use Rattle.plain_vectors.specs.Next.{with_next}

pub unused_named : (v name : List ℕ) (k : ℕ) {b n : List ℕ} {x : Bool} → b ≡ block_of v k → n ≡ card_of b → x ≡ same n name
    → (eqb (get_or b 1 0) 0 && x) ≡ unused_at v name k
unfolding unused_at unused_here vector_of
unused_named v name k e f g = rw (← e, ← f, g)

module _ (v name : List ℕ) (most : ℕ) (s : Sent) (k : ℕ) where
  pub next_enough : most ≤ s.count → s ≡ with_next v name most s k
  unfolding with_next
  next_enough h = rw (le-leb _ _ h)

  module _ {x : Bool} (few : s.count < most) (is : x ≡ unused_at v name k) where
    pub next_one : {r : Sent} → x ≡ true → r ≡ sent_also s k → r ≡ with_next v name most s k
    unfolding with_next
    next_one e f = let q : unused_at v name k ≡ true = sym is ∙ e in rw (lt-leb _ _ few, q) f

    pub next_other : x ≡ false → s ≡ with_next v name most s k
    unfolding with_next
    next_other e = let q : unused_at v name k ≡ false = sym is ∙ e in rw (lt-leb _ _ few, q)

ones_none : (p : ℕ → Bool) (n k : ℕ) → first_ones p n k 0 ≡ []
unfolding first_ones
ones_none p zero k = refl
ones_none p (suc n) k = refl

pub left_next : (v name : List ℕ) (most : ℕ) (s : Sent) (k : ℕ) {r : Sent} → Left v name most s k → k < length v / 512 → most ≤ 16
    → r ≡ with_next v name most s k → Left v name most r (k + 1)
unfolding with_next
left_next v name most s k {r} left h m e = go (leb most s.count) refl (unused_at v name k) refl e
  where
    enough : most ≤ s.count → Left v name most s (k + 1)
    enough l =
        let i : most - s.count ≡ 0 = omega arith in
        let n : ℕ = length v / 512 in
        let a : first_ones (unused_at v name) (n - k) k (most - s.count) ≡ [] = rw i (ones_none (unused_at v name) (n - k) k) in
        let b : first_ones (unused_at v name) (n - (k + 1)) (k + 1) (most - s.count) ≡ [] = rw i (ones_none (unused_at v name) (n - (k + 1)) (k + 1)) in
        record {
          ones = left.ones;
          packs = left.packs;
          few = left.few;
          whole = left.whole ∙ ap (λ (l : List ℕ). left.ones ++ l) (a ∙ sym b);
        }

    go : (x : Bool) → leb most s.count ≡ x → (y : Bool) → unused_at v name k ≡ y → r ≡ cond x s (cond y (sent_also s k) s) → Left v name most r (k + 1)
    go true f y g q = rw q (enough (leb-true most s.count f))
    go false f true g q = left_taken v name most s k left h (leb-false most s.count f) (sym g) r m refl q
    go false f false g q = rw q (left_passed v name most s k left h (leb-false most s.count f) (sym g) refl)
