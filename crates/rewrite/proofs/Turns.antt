-- The turns of a loop over all the records of a table that changes the chosen ones, each where it stands.
use Rattle.octets.specs.Standard.{ℕ, zero, suc, ◌+◌, ◌*◌, ◌<◌, ◌≤◌, Bool, true, false, cond, ◌≡◌, refl, sym, ap, ◌∙◌, ◌≢◌, List, [], ◌∷◌, arith}
use Rattle.octets.specs.Standard.{add-one, length, le-ltb}
use Rattle.record.specs.Fields.{set_of}
use Rattle.record.specs.Sets.{same_set}
use Rattle.record.proofs.OneSet.{set_alike}
use Rattle.blocks.specs.Blocks.{block_of}
use Rattle.table.specs.SoundTable.{SoundTable}
use Rattle.blocks.proofs.Blocks.{block_length}
use Rattle.table.proofs.Sound.{sound_size}
use Rattle.blocks.specs.Changed.{changed_at, changed_in}
use Rattle.blocks.proofs.Changed.{in_here, in_other, up_to, turns_next, turns_end}
use Rattle.rewrite.specs.Change.{after_of, reaches, differ, altered_up_to}
use Rattle.rewrite.specs.Keeps.{Kept, Keeps}
use Rattle.rewrite.specs.Fitting.{change_of, ChangeFits}
use Rattle.rewrite.specs.declared.Change.{Change}
use Rattle.rewrite.specs.declared.Change.TheVariants.{Settled, Challenged}
use Rattle.rewrite.proofs.Challenged.{challenged_keeps}
use Rattle.rewrite.proofs.Counts.{altered_most, one_counts}
use Rattle.rewrite.proofs.Reaching.{reaches_alone, reaches_members, reaches_later}
use Rattle.rewrite.proofs.Settled.{settled_keeps}
use Rattle.rewrite.proofs.Sound.{kept_set, kept_private, sound_private}
use Rattle.rewrite.proofs.Tables.{keeps_whole, after_none, after_length, after_block, after_kept, one_after}
use Rattle.rewrite.proofs.Writes.{differ_same, in_differs}

-- Where such a loop is: what the table y is by then, and how many records were altered.
pub record Going (x : List ℕ) (count : ℕ) (p : ℕ → Bool) (change : List ℕ → List ℕ) (i : ℕ) (y : List ℕ) (altered : ℕ) : Type 0 where
  pub table : y ≡ after_of x count (up_to (i + 1) p) change
  pub counts : altered ≡ altered_up_to x y i

altered_alike : (x y z : List ℕ) (n : ℕ) → ((j : ℕ) → j ≤ n → block_of z j ≡ block_of y j) → altered_up_to x z n ≡ altered_up_to x y n
unfolding altered_up_to
altered_alike x y z zero h = refl
altered_alike x y z (suc n) h = rw (altered_alike x y z n (λ j l. h j (omega arith)), h (suc n) (omega arith))

module _ (x : List ℕ) (count : ℕ) (p : ℕ → Bool) (change : List ℕ → List ℕ) (keeps : Keeps change) (size : length x ≡ 512 * (count + 1)) where
  pub going_start : p 0 ≡ false → Going x count p change 0 x 0
  unfolding altered_up_to
  going_start first = record { table = after_none x count change size (up_to 1 p) (λ k l. none k); counts = refl }
    where
      none : (k : ℕ) → up_to 1 p k ≡ false
      none zero = first
      none (suc k) = rw (le-ltb (suc k) 1 (omega arith))

  module _ (i : ℕ) (y : List ℕ) (altered : ℕ) (going : Going x count p change i y altered) where
    pub going_size : length y ≡ 512 * (count + 1)
    going_size = rw going.table (after_length x count change size (up_to (i + 1) p) keeps ∙ size)

    going_block : (j : ℕ) → j ≤ count → block_of y j ≡ changed_at x (up_to (i + 1) p) change j
    going_block j h = rw going.table (after_block x count change size (up_to (i + 1) p) keeps j h)

    pub going_kept : (j : ℕ) → j ≤ count → Kept (block_of x j) (block_of y j)
    going_kept j h = rw going.table (after_kept x count change size (up_to (i + 1) p) keeps j h)

    pub going_few : altered ≤ i
    going_few = omega (arith, going.counts, altered_most x y i)

    -- the next record is as it came
    pub going_next : i < count → block_of y (i + 1) ≡ block_of x (i + 1)
    unfolding changed_at
    going_next h = going_block (i + 1) (omega arith) ∙ rw (le-ltb (i + 1) (i + 1) (omega arith))

    -- it is looked at, and changed if it is chosen
    module _ (h : i < count) (u : Bool) (is : p (i + 1) ≡ u) (z : List ℕ) (put : z ≡ cond u (changed_in y (i + 1) change) y) where
      room : 512 * (i + 1) + 512 ≤ length y
      room = omega (arith, going_size)

      here : block_of z (i + 1) ≡ cond u (change (block_of x (i + 1))) (block_of x (i + 1))
      here = rw put (go u)
        where
          go : (v : Bool) → block_of (cond v (changed_in y (i + 1) change) y) (i + 1) ≡ cond v (change (block_of x (i + 1))) (block_of x (i + 1))
          go true = in_here y (i + 1) change (keeps_whole keeps) room ∙ ap change (going_next h)
          go false = going_next h

      there : (j : ℕ) → j ≢ i + 1 → block_of z j ≡ block_of y j
      there j n = rw put (go u)
        where
          go : (v : Bool) → block_of (cond v (changed_in y (i + 1) change) y) j ≡ block_of y j
          go true = in_other y (i + 1) change (keeps_whole keeps) room j n
          go false = refl

      turn_table : z ≡ after_of x count (up_to (i + 1 + 1) p) change
      unfolding after_of
      turn_table =
          rw (put, going.table, ← is) (turns_next x (suc count) p change (omega arith) (keeps_whole keeps) (i + 1) (omega arith))

      turn_differs : differ (block_of x (i + 1)) (block_of z (i + 1)) ≡ differ y z
      turn_differs = rw (here, put, ← going_next h) (go u)
        where
          go : (v : Bool) → differ (block_of y (i + 1)) (cond v (change (block_of y (i + 1))) (block_of y (i + 1)))
              ≡ differ y (cond v (changed_in y (i + 1) change) y)
          go true = in_differs change y (i + 1) (keeps.each (block_of y (i + 1)) (block_length y (i + 1) room)).size room
          go false = differ_same (block_of y (i + 1)) ∙ sym (differ_same y)

      pub going_turn : (e : ℕ) → e ≡ differ y z → Going x count p change (i + 1) z (altered + e)
      unfolding altered_up_to
      going_turn e d =
          record {
            table = turn_table;
            counts =
                rw (add-one i)
                (omega (arith, d, going.counts, altered_alike x y z i (λ j l. there j (omega arith)), rw (add-one i) at turn_differs));
          }

    pub going_end : count ≤ i → i ≤ count → y ≡ after_of x count p change
    unfolding after_of
    going_end a b = going.table ∙ turns_end x (suc count) p change (i + 1) (omega arith)

    pub going_sum : count ≤ i → i ≤ count → altered ≡ altered_up_to x y count
    going_sum a b = let q : i ≡ count = omega arith in rw q at going.counts

-- Both changes keep what every effect keeps.
pub change_keeps : (c : Change) (name : List ℕ) → ChangeFits c name → Keeps (change_of c name)
unfolding change_of
change_keeps (Settled state) name f = settled_keeps state name f
change_keeps Challenged name (least, most) = challenged_keeps name least most

-- The loop over the set of block k, and a record that has none.
module _ (x : List ℕ) (count k : ℕ) (c : Change) (name : List ℕ) (sound : SoundTable x count) (a : 1 ≤ k) (b : k ≤ count) (fits : ChangeFits c name) where
  keeps : Keeps (change_of c name)
  keeps = change_keeps c name fits

  size : length x ≡ 512 * (count + 1)
  size = sound_size x count sound

  module _ (numbered : 0 < set_of (block_of x k)) where
    pub members_start : Going x count (reaches x (k ∷ [])) (change_of c name) 0 x 0
    members_start = going_start x count (reaches x (k ∷ [])) (change_of c name) keeps size (reaches_later x count sound k a)

    module _ (i : ℕ) (y : List ℕ) (altered : ℕ) (going : Going x count (reaches x (k ∷ [])) (change_of c name) i y altered) where
      pub members_size : length y ≡ 512 * (count + 1)
      members_size = going_size x count (reaches x (k ∷ [])) (change_of c name) keeps size i y altered going

      kept : (j : ℕ) → j ≤ count → Kept (block_of x j) (block_of y j)
      kept = going_kept x count (reaches x (k ∷ [])) (change_of c name) keeps size i y altered going

      set_kept : (j : ℕ) → 1 ≤ j → j ≤ count → same_set (block_of y k) (block_of y j) ≡ same_set (block_of x k) (block_of x j)
      set_kept j l m =
          set_alike (block_of y k) (block_of y j) (block_of x k) (block_of x j)
          (kept_set (block_of x k) (block_of y k) (kept k b))
          (kept_private (block_of x k) (block_of y k) (kept k b) (sound_private x count sound k a b))
          (kept_set (block_of x j) (block_of y j) (kept j m))
          (kept_private (block_of x j) (block_of y j) (kept j m) (sound_private x count sound j l m))

      pub members_turn : {u : Bool} {z : List ℕ} {e : ℕ} → i < count → u ≡ same_set (block_of y k) (block_of y (i + 1))
          → z ≡ cond u (changed_in y (i + 1) (change_of c name)) y → e ≡ differ y z
          → Going x count (reaches x (k ∷ [])) (change_of c name) (i + 1) z (altered + e)
      members_turn {u} {z} {e} h is put d =
          going_turn x count (reaches x (k ∷ [])) (change_of c name) keeps size i y altered going h u
          (reaches_members x k (i + 1) numbered ∙ sym (set_kept (i + 1) (omega arith) (omega arith)) ∙ sym is) z put e d

      pub members_few : altered ≤ i
      members_few = going_few x count (reaches x (k ∷ [])) (change_of c name) keeps size i y altered going

      pub members_end : count ≤ i → i ≤ count → y ≡ after_of x count (reaches x (k ∷ [])) (change_of c name)
      members_end = going_end x count (reaches x (k ∷ [])) (change_of c name) keeps size i y altered going

      pub members_sum : count ≤ i → i ≤ count → altered ≡ altered_up_to x y count
      members_sum = going_sum x count (reaches x (k ∷ [])) (change_of c name) keeps size i y altered going

  module _ {s : ℕ} {v : List ℕ} (at : v ≡ block_of x k) (read : s ≡ set_of v) (none : s ≡ 0) {y : List ℕ} (put : y ≡ changed_in x k (change_of c name)) where
    no_set_lem : set_of (block_of x k) ≡ 0
    no_set_lem = rw (← at) (sym read ∙ none)

    pub alone_changed : y ≡ after_of x count (reaches x (k ∷ [])) (change_of c name)
    alone_changed = put ∙ one_after x count (change_of c name) size keeps k b (reaches x (k ∷ [])) (λ j. reaches_alone x k j no_set_lem)

    pub alone_counts : {r : ℕ} → r ≡ differ x y → r ≡ altered_up_to x y count
    alone_counts e = e ∙ rw put (one_counts (change_of c name) keeps x count size k a b)

pub has_set : (x : List ℕ) (k : ℕ) {s : ℕ} {v : List ℕ} → v ≡ block_of x k → s ≡ set_of v → (s ≡ 0 → ⊥) → 0 < set_of (block_of x k)
has_set x k {s} at read n = let q : s ≡ set_of (block_of x k) = rw (← at) read in omega arith
