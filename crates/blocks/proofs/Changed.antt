-- A file of blocks with one of them changed, or with the chosen ones, by its blocks: a changed one anew, and every other as it was.
use Rattle.octets.specs.Standard.{ℕ, zero, suc, ◌+◌, ◌-◌, ◌*◌, ◌<◌, ◌≤◌, Bool, true, false, cond, ◌&&◌, ◌||◌, or_assoc, ◌≡◌, refl, sym, ◌∙◌, ap, ◌≢◌}
use Rattle.octets.specs.Standard.{List, [], ◌∷◌, ◌++◌, append-nil, append_assoc, arith, eqb, ltb, eqb-true, eqb-false, lt-ltb, le-ltb, ltb-true}
use Rattle.octets.specs.Standard.{ltb-false, length, get_or, take, drop, take_at, drop_at, drop-drop, mid_of, put_mid, add-sub_cancel_left}
use Rattle.octets.proofs.Parts.{part_alike, spliced, spliced_part, spliced_length, spliced_before, spliced_after}
use Rattle.blocks.specs.Blocks.{block_of, table_of}
use Rattle.blocks.proofs.Blocks.{block_length, table_same, table_is, table_length, table_block}
use Rattle.blocks.specs.Changed.{is_one, changed_at, changed_all, changed_in}

-- A choice by two lists of numbers is that by either.
pub one_append : (ks ms : List ℕ) (j : ℕ) → is_one (ks ++ ms) j ≡ (is_one ks j || is_one ms j)
unfolding is_one
one_append [] ms j = refl
one_append (k ∷ ks) ms j = rw (one_append ks ms j) (sym (or_assoc (eqb j k) (is_one ks j) (is_one ms j)))

module _ (t : List ℕ) (k : ℕ) (y : List ℕ) (whole : length y ≡ 512) (fits : 512 * k + 512 ≤ length t) where
  block_spliced : block_of (spliced t (512 * k) y) k ≡ y
  unfolding block_of
  block_spliced = ap (λ (n : ℕ). take n (drop (512 * k) (spliced t (512 * k) y))) (sym whole) ∙ spliced_part t (512 * k) y (omega arith)

  byte_apart : (j i : ℕ) → j ≢ k → 512 * j ≤ i → i < 512 * j + 512 → get_or (spliced t (512 * k) y) i 0 ≡ get_or t i 0
  byte_apart j i h u v = go (ltb j k) refl
    where
      go : (x : Bool) → ltb j k ≡ x → get_or (spliced t (512 * k) y) i 0 ≡ get_or t i 0
      go true e = let f : j < k = ltb-true _ _ e in spliced_before t (512 * k) y (omega arith) i (omega arith)
      go false e = let f : k ≤ j = ltb-false _ _ e in spliced_after t (512 * k) y (omega arith) i (omega arith)

  block_apart : (j : ℕ) → j ≢ k → block_of (spliced t (512 * k) y) j ≡ block_of t j
  unfolding block_of
  block_apart j h = part_alike (spliced t (512 * k) y) t (512 * j) 512 (spliced_length t (512 * k) y (omega arith)) (λ i u v. byte_apart j i h u v)

-- A block of a file, lent and come back.
pub block_put : (change : List ℕ → List ℕ) (t : List ℕ) (k : ℕ) {y : List ℕ} → y ≡ change (mid_of (512 * k) (512 * k + 512 - 512 * k) t)
    → put_mid (512 * k) (512 * k + 512 - 512 * k) t y ≡ changed_in t k change
unfolding changed_in block_of
block_put change t k e = rw (e, add-sub_cancel_left, drop-drop)

-- A change that leaves a whole block whole.
abbrev pub Whole : (List ℕ → List ℕ) → Type 0
Whole change = (b : List ℕ) → length b ≡ 512 → length (change b) ≡ 512

module _ (t : List ℕ) (k : ℕ) (change : List ℕ → List ℕ) (whole : Whole change) (fits : 512 * k + 512 ≤ length t) where
  new_length : length (change (block_of t k)) ≡ 512
  new_length = whole (block_of t k) (block_length t k fits)

  is_spliced : changed_in t k change ≡ spliced t (512 * k) (change (block_of t k))
  unfolding changed_in
  is_spliced = rw new_length

  pub in_length : length (changed_in t k change) ≡ length t
  in_length = rw is_spliced (spliced_length t (512 * k) (change (block_of t k)) (rw new_length fits))

  pub in_here : block_of (changed_in t k change) k ≡ change (block_of t k)
  in_here = rw is_spliced (block_spliced t k (change (block_of t k)) new_length fits)

  pub in_other : (j : ℕ) → j ≢ k → block_of (changed_in t k change) j ≡ block_of t j
  in_other j h = rw is_spliced (block_apart t k (change (block_of t k)) new_length fits j h)

-- One block more is changed, of the blocks f and of what may follow them.
module _ (change : List ℕ → List ℕ) (f : ℕ → List ℕ) where
  -- the one behind the first k
  pub next_changed : (k : ℕ) (b r : List ℕ) → ((j : ℕ) → j < k → length (f j) ≡ 512) → length b ≡ 512
      → changed_in (table_of f k ++ (b ++ r)) k change ≡ table_of f k ++ (change b ++ r)
  unfolding changed_in block_of
  next_changed k b r whole one =
      let size : length (table_of f k) ≡ 512 * k = table_length f k whole in
      rw (
        ← drop-drop 512 (512 * k) (table_of f k ++ (b ++ r)),
        take_at (table_of f k) (b ++ r) (512 * k) size,
        drop_at (table_of f k) (b ++ r) (512 * k) size,
        take_at b r 512 one,
        drop_at b r 512 one,
      )

  -- any of the first n
  pub table_changed : (g : ℕ → List ℕ) (n k : ℕ) (r : List ℕ) → k < n → ((j : ℕ) → j < n → length (f j) ≡ 512) → change (f k) ≡ g k
      → ((j : ℕ) → j ≢ k → f j ≡ g j) → changed_in (table_of f n ++ r) k change ≡ table_of g n ++ r
  unfolding table_of
  table_changed g zero k r h whole one others = absurd (omega arith)
  table_changed g (suc n) k r h whole one others =
      rw (append_assoc (table_of f n) (f n) r, append_assoc (table_of g n) (g n) r)
      (go (eqb n k) refl (λ l. table_changed g n k (f n ++ r) l (λ j m. whole j (omega arith)) one others))
    where
      go : (x : Bool) → eqb n k ≡ x → (k < n → changed_in (table_of f n ++ (f n ++ r)) k change ≡ table_of g n ++ (f n ++ r))
          → changed_in (table_of f n ++ (f n ++ r)) k change ≡ table_of g n ++ (g n ++ r)
      go true e below =
          let q : n ≡ k = eqb-true n k e in
          let last : g n ≡ change (f n) = ap g q ∙ sym one ∙ ap (λ (i : ℕ). change (f i)) (sym q) in
          rw (← table_same f g n (λ j l. others j (omega arith)), last, ← q) (next_changed n (f n) r (λ j l. whole j (omega arith)) (whole n (omega arith)))
      go false e below = let d : n ≢ k = eqb-false n k e in below (omega arith) ∙ rw (others n d)

-- The chosen ones of n blocks.
module _ (t : List ℕ) (n : ℕ) (chosen : ℕ → Bool) (change : List ℕ → List ℕ) (size : length t ≡ 512 * n) where
  -- none is chosen
  pub all_none : ((k : ℕ) → k < n → chosen k ≡ false) → t ≡ changed_all t n chosen change
  unfolding changed_all changed_at
  all_none h = table_is t n size ∙ table_same (block_of t) (changed_at t chosen change) n (λ k l. rw (h k l))

  module _ (whole : Whole change) where
    at_whole : (k : ℕ) → k < n → length (changed_at t chosen change k) ≡ 512
    unfolding changed_at
    at_whole k h = go (chosen k)
      where
        go : (x : Bool) → length (cond x (change (block_of t k)) (block_of t k)) ≡ 512
        go true = whole (block_of t k) (block_length t k (omega arith))
        go false = block_length t k (omega arith)

    pub all_length : length (changed_all t n chosen change) ≡ length t
    unfolding changed_all
    all_length = table_length (changed_at t chosen change) n at_whole ∙ omega arith

    pub all_block : (k : ℕ) → k < n → block_of (changed_all t n chosen change) k ≡ changed_at t chosen change k
    unfolding changed_all
    all_block k h = table_block (changed_at t chosen change) n at_whole k h

    -- one more, which may be among them if it is as good as changed once
    pub one_more : (more : ℕ → Bool) (k : ℕ) → k < n → change (changed_at t chosen change k) ≡ change (block_of t k) → more k ≡ true
        → ((j : ℕ) → j ≢ k → chosen j ≡ more j) → changed_in (changed_all t n chosen change) k change ≡ changed_all t n more change
    unfolding changed_all changed_at
    one_more more k h once is others =
        ap (λ (z : List ℕ). changed_in z k change) (sym (append-nil (changed_all t n chosen change)))
        ∙ table_changed change (changed_at t chosen change) (changed_at t more change) n k [] h at_whole (rw is once) (λ j d. rw (others j d))
        ∙ append-nil (changed_all t n more change)

-- The turns of a loop over n blocks that changes the chosen ones: those of the first k are changed.
abbrev pub up_to : ℕ → (ℕ → Bool) → ℕ → Bool
up_to k chosen j = ltb j k && chosen j

module _ (t : List ℕ) (n : ℕ) (chosen : ℕ → Bool) (change : List ℕ → List ℕ) where
  pub turns_none : length t ≡ 512 * n → t ≡ changed_all t n (up_to 0 chosen) change
  turns_none size = all_none t n (up_to 0 chosen) change size (λ j l. rw (le-ltb j 0 (omega arith)))

  pub turns_next : length t ≡ 512 * n → Whole change → (k : ℕ) → k < n
      → cond (chosen k) (changed_in (changed_all t n (up_to k chosen) change) k change) (changed_all t n (up_to k chosen) change)
      ≡ changed_all t n (up_to (k + 1) chosen) change
  unfolding changed_all changed_at
  turns_next size whole k h = go (chosen k) refl
    where
      others : (j : ℕ) → j ≢ k → up_to k chosen j ≡ up_to (k + 1) chosen j
      others j d = near (ltb j k) refl
        where
          near : (x : Bool) → ltb j k ≡ x → up_to k chosen j ≡ up_to (k + 1) chosen j
          near true e = rw (e, lt-ltb j (k + 1) (omega (arith, ltb-true j k e)))
          near false e = rw (e, le-ltb j (k + 1) (omega (arith, ltb-false j k e)))

      go : (x : Bool) → chosen k ≡ x
          → cond x (changed_in (changed_all t n (up_to k chosen) change) k change) (changed_all t n (up_to k chosen) change)
          ≡ changed_all t n (up_to (k + 1) chosen) change
      go true e =
          one_more t n (up_to k chosen) change size whole (up_to (k + 1) chosen) k h (rw (le-ltb k k (omega arith)))
          (rw (lt-ltb k (k + 1) (omega arith), e)) others
      go false e = table_same _ _ n (λ j l. here j (eqb j k) refl)
        where
          here : (j : ℕ) (x : Bool) → eqb j k ≡ x → changed_at t (up_to k chosen) change j ≡ changed_at t (up_to (k + 1) chosen) change j
          here j true q = let i : j ≡ k = eqb-true j k q in rw (i, le-ltb k k (omega arith), lt-ltb k (k + 1) (omega arith), e)
          here j false q = rw (others j (eqb-false j k q))

  pub turns_end : (k : ℕ) → n ≤ k → changed_all t n (up_to k chosen) change ≡ changed_all t n chosen change
  unfolding changed_all changed_at
  turns_end k h = table_same _ _ n (λ j l. rw (lt-ltb j k (omega arith)))
