-- The table after an effect, by its blocks: for any change that keeps what every effect keeps.
use Rattle.octets.specs.Standard.{ℕ, suc, ◌+◌, ◌*◌, ◌≤◌, Bool, true, false, cond, ◌||◌, ◌≡◌, refl, sym, ◌∙◌, ap, List, arith, eqb, ne_eqb, eq-eqb}
use Rattle.octets.specs.Standard.{length}
use Rattle.blocks.specs.Blocks.{block_of}
use Rattle.blocks.proofs.Blocks.{block_length, table_same}
use Rattle.record.specs.Sets.{same_set, agreeing}
use Rattle.blocks.specs.Changed.{changed_at, changed_all, changed_in}
use Rattle.blocks.proofs.Changed.{Whole, all_none, all_length, all_block, one_more}
use Rattle.rewrite.specs.Change.{after_of}
use Rattle.rewrite.specs.Keeps.{Kept, Keeps}

pub kept_same : (b c : List ℕ) → c ≡ b → Kept b c
kept_same b c e = record { size = rw e; others = λ i l a. rw e; bits = rw e; sound = λ k networks file s. rw e s }

pub keeps_whole : {change : List ℕ → List ℕ} → Keeps change → Whole change
keeps_whole keeps b l = (keeps.each b l).size ∙ l

-- Two effects that leave the same blocks leave the same table.
pub after_same : (x t : List ℕ) (count : ℕ) (p q : ℕ → Bool) (change : List ℕ → List ℕ)
    → ((k : ℕ) → k ≤ count → changed_at x p change k ≡ changed_at t q change k)
    → after_of x count p change ≡ after_of t count q change
unfolding after_of changed_all
after_same x t count p q change h = table_same _ _ (suc count) (λ k l. h k (omega arith))

-- Block j after an effect, if the choice and the block are as before.
pub at_same : (y x : List ℕ) (p q : ℕ → Bool) (change : List ℕ → List ℕ) (j : ℕ) → block_of y j ≡ block_of x j → p j ≡ q j
    → changed_at y p change j ≡ changed_at x q change j
unfolding changed_at
at_same y x p q change j e f = rw (e, f)

-- Two choices of the same records.
pub after_choice : (x : List ℕ) (count : ℕ) (p q : ℕ → Bool) (change : List ℕ → List ℕ) → ((k : ℕ) → k ≤ count → p k ≡ q k)
    → after_of x count p change ≡ after_of x count q change
after_choice x count p q change h = after_same x x count p q change (λ k l. at_same x x p q change k refl (h k l))

-- A choice of whole sets: of two records of one set both or neither.
abbrev pub Closed : List ℕ → (ℕ → Bool) → Type 0
Closed t chosen = (j k : ℕ) → same_set (block_of t j) (block_of t k) ≡ true → chosen j ≡ chosen k

-- A table that keeps of another its length, its header, of each record what every effect keeps, and that those of one set agree.
pub record Keeping (x y : List ℕ) (count : ℕ) : Type 0 where
  pub size : length y ≡ length x
  pub header : block_of y 0 ≡ block_of x 0
  pub each : (k : ℕ) → 1 ≤ k → k ≤ count → Kept (block_of x k) (block_of y k)
  pub agree : (j k : ℕ) → j ≤ count → k ≤ count → same_set (block_of x j) (block_of x k) ≡ true → agreeing (block_of x j) (block_of x k) ≡ true
      → agreeing (block_of y j) (block_of y k) ≡ true

pub keeping_same : (x : List ℕ) (count : ℕ) → Keeping x x count
keeping_same x count = record { size = refl; header = refl; each = λ k a b. kept_same _ _ refl; agree = λ j k a b s e. e }

module _ (t : List ℕ) (count : ℕ) (change : List ℕ → List ℕ) (size : length t ≡ 512 * (count + 1)) where
  module _ (chosen : ℕ → Bool) where
    -- an effect on none
    pub after_none : ((k : ℕ) → k ≤ count → chosen k ≡ false) → t ≡ after_of t count chosen change
    unfolding after_of
    after_none h = all_none t (suc count) chosen change (omega arith) (λ k l. h k (omega arith))

    module _ (keeps : Keeps change) where
      pub after_length : length (after_of t count chosen change) ≡ length t
      unfolding after_of
      after_length = all_length t (suc count) chosen change (omega arith) (keeps_whole keeps)

      pub after_block : (k : ℕ) → k ≤ count → block_of (after_of t count chosen change) k ≡ changed_at t chosen change k
      unfolding after_of
      after_block k h = all_block t (suc count) chosen change (omega arith) (keeps_whole keeps) k (omega arith)

      -- the frame: a record that is not chosen stays, a chosen one is changed
      pub after_frame : (k : ℕ) → k ≤ count → chosen k ≡ false → block_of (after_of t count chosen change) k ≡ block_of t k
      unfolding changed_at
      after_frame k h e = after_block k h ∙ rw e

      pub after_chosen : (k : ℕ) → k ≤ count → chosen k ≡ true → block_of (after_of t count chosen change) k ≡ change (block_of t k)
      unfolding changed_at
      after_chosen k h e = after_block k h ∙ rw e

      pub after_kept : (k : ℕ) → k ≤ count → Kept (block_of t k) (block_of (after_of t count chosen change) k)
      after_kept k b = go (chosen k) refl
        where
          go : (x : Bool) → chosen k ≡ x → Kept (block_of t k) (block_of (after_of t count chosen change) k)
          go true e = rw (after_chosen k b e) (keeps.each (block_of t k) (block_length t k (omega arith)))
          go false e = kept_same _ _ (after_frame k b e)

      after_agree : Closed t chosen → (j k : ℕ) → j ≤ count → k ≤ count → same_set (block_of t j) (block_of t k) ≡ true
          → agreeing (block_of t j) (block_of t k) ≡ true
          → agreeing (block_of (after_of t count chosen change) j) (block_of (after_of t count chosen change) k) ≡ true
      after_agree closed j k a b s e = go (chosen k) refl
        where
          go : (x : Bool) → chosen k ≡ x → agreeing (block_of (after_of t count chosen change) j) (block_of (after_of t count chosen change) k) ≡ true
          go true f =
              rw (after_chosen j a (closed j k s ∙ f), after_chosen k b f)
              (keeps.agree (block_of t j) (block_of t k) (block_length t j (omega arith)) (block_length t k (omega arith)) e)
          go false f = rw (after_frame j a (closed j k s ∙ f), after_frame k b f) e

      pub after_keeping : chosen 0 ≡ false → Closed t chosen → Keeping t (after_of t count chosen change) count
      after_keeping none closed =
          record { size = after_length; header = after_frame 0 (omega arith) none; each = λ k a b. after_kept k b; agree = after_agree closed }

  module _ (keeps : Keeps change) where
    -- an effect after an effect is that on the records of either, since a record that is changed twice is changed once
    pub after_both : (p q : ℕ → Bool) → after_of (after_of t count p change) count q change ≡ after_of t count (λ (j : ℕ). p j || q j) change
    unfolding changed_at
    after_both p q = after_same (after_of t count p change) t count q (λ (j : ℕ). p j || q j) change each
      where
        each : (k : ℕ) → k ≤ count → changed_at (after_of t count p change) q change k ≡ changed_at t (λ (j : ℕ). p j || q j) change k
        each k h = rw (after_block p keeps k h) (go (p k) (q k))
          where
            go : (x y : Bool) → cond y (change (cond x (change (block_of t k)) (block_of t k))) (cond x (change (block_of t k)) (block_of t k))
                ≡ cond (x || y) (change (block_of t k)) (block_of t k)
            go true true = keeps.twice (block_of t k) (block_length t k (omega arith))
            go true false = refl
            go false y = refl

    -- the one that is chosen
    pub one_after : (k : ℕ) → k ≤ count → (chosen : ℕ → Bool) → ((j : ℕ) → chosen j ≡ eqb j k) → changed_in t k change ≡ after_of t count chosen change
    unfolding after_of changed_at
    one_after k b chosen is =
        ap (λ (z : List ℕ). changed_in z k change) (after_none (λ (j : ℕ). false) (λ j l. refl))
        ∙ one_more t (suc count) (λ (j : ℕ). false) change (omega arith) (keeps_whole keeps) chosen k (omega arith) refl (is k ∙ eq-eqb k k refl)
        (λ j d. sym (is j ∙ ne_eqb j k d))
