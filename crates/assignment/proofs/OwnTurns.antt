-- The turns of the loop that settles a subscription's records: those not in state 0, which are whole sets.
use Rattle.octets.specs.Standard.{ℕ, zero, suc, ◌+◌, ◌*◌, ◌<◌, ◌≤◌, List, [], ◌∷◌, Bool, true, false, cond, ◌&&◌, ◌||◌, and-true, or-false}
use Rattle.octets.specs.Standard.{true≢false, ◌≡◌, refl, sym, ap, ◌∙◌, ◌≢◌, arith, length, eqb, leb, ltb, eqb-true, eqb-false, ltb-true, ltb-false}
use Rattle.octets.specs.Standard.{le-leb, lt-leb, ne_eqb}
use Rattle.record.specs.Sets.{same_set}
use Rattle.record.proofs.OneSet.{OneSet, set_says, Agree, agree_says}
use Rattle.blocks.specs.Blocks.{block_of}
use Rattle.table.specs.SoundTable.{SoundTable}
use Rattle.table.proofs.Sound.{sound_size}
use Rattle.blocks.specs.Changed.{changed_in, is_one}
use Rattle.rewrite.specs.Change.{after_of, reaches, differ, altered_up_to}
use Rattle.rewrite.specs.Keeps.{Keeps}
use Rattle.rewrite.specs.Renew.{settled}
use Rattle.rewrite.specs.Fitting.{Fitting, change_of}
use Rattle.rewrite.specs.declared.Change.{Change}
use Rattle.rewrite.specs.declared.Change.TheVariants.{Settled}
use Rattle.rewrite.proofs.Reaching.{both_ways, reaches_named_one, reaches_one, reaches_append, reaches_zero}
use Rattle.rewrite.proofs.Settled.{settled_keeps}
use Rattle.rewrite.proofs.Together.{members_agree}
use Rattle.rewrite.proofs.Turns.{Going, going_start, going_next, going_turn, going_end, going_sum}
use Rattle.blocks.proofs.Changed.{one_append}
use Rattle.assignment.specs.Assignment.{owned_here, owned_up_to}

-- Such a record is one of the list that document 01 means.
owned_one : (t user : List ℕ) (n j : ℕ) → 1 ≤ j → is_one (owned_up_to t user n) j ≡ (leb j n && owned_here (block_of t j) user)
unfolding owned_up_to is_one
owned_one t user zero j h = rw (lt-leb j 0 h)
owned_one t user (suc n) j h = one_append (owned_up_to t user n) (cond (owned_here (block_of t (suc n)) user) (suc n ∷ []) []) j
    ∙ rw (owned_one t user n j h) (go (eqb j (suc n)) refl)
  where
    last : (u v : Bool) → owned_here (block_of t (suc n)) user ≡ u → eqb j (suc n) ≡ v
        → is_one (cond (owned_here (block_of t (suc n)) user) (suc n ∷ []) []) j ≡ (v && u)
    last true v e f = rw (e, f) (or-false v ∙ sym (and-true v))
    last false true e f = rw e
    last false false e f = rw e

    go : (v : Bool) → eqb j (suc n) ≡ v
        → ((leb j n && owned_here (block_of t j) user) || is_one (cond (owned_here (block_of t (suc n)) user) (suc n ∷ []) []) j)
        ≡ (leb j (suc n) && owned_here (block_of t j) user)
    go true e =
        let q : j ≡ suc n = eqb-true j (suc n) e in
        rw (last (owned_here (block_of t (suc n)) user) true refl e, q, lt-leb (suc n) n (omega arith), le-leb (suc n) (suc n) (omega arith))
    go false e =
        let q : j ≢ suc n = eqb-false j (suc n) e in
        rw (last (owned_here (block_of t (suc n)) user) false refl e, or-false (leb j n && owned_here (block_of t j) user)) (near (ltb n j) refl q)
      where
        near : (w : Bool) → ltb n j ≡ w → j ≢ suc n → (leb j n && owned_here (block_of t j) user) ≡ (leb j (suc n) && owned_here (block_of t j) user)
        near true f q = let l : n < j = ltb-true n j f in rw (lt-leb j n l, lt-leb j (suc n) (omega arith))
        near false f q = let l : j ≤ n = ltb-false n j f in rw (le-leb j n l, le-leb j (suc n) (omega arith))

-- the header's block is none of them
pub no_zero : (t user : List ℕ) (n : ℕ) → is_one (owned_up_to t user n) 0 ≡ false
unfolding owned_up_to is_one
no_zero t user zero = refl
no_zero t user (suc n) = one_append (owned_up_to t user n) (cond (owned_here (block_of t (suc n)) user) (suc n ∷ []) []) 0
    ∙ rw (no_zero t user n) (go (owned_here (block_of t (suc n)) user))
  where
    go : (u : Bool) → is_one (cond u (suc n ∷ []) []) 0 ≡ false
    go true = rw (ne_eqb 0 (suc n) (λ e. omega arith))
    go false = refl

-- The records of a set are such together, so that they are whole sets.
module _ (t : List ℕ) (count : ℕ) (sound : SoundTable t count) (user : List ℕ) where
  members_owned : (k j : ℕ) → 1 ≤ k → k ≤ count → 1 ≤ j → j ≤ count → same_set (block_of t k) (block_of t j) ≡ true
      → owned_here (block_of t k) user ≡ true → owned_here (block_of t j) user ≡ true
  unfolding owned_here
  members_owned k j a b c d s e =
      let one : OneSet (block_of t k) (block_of t j) = set_says (block_of t k) (block_of t j) s in
      let agree : Agree (block_of t k) (block_of t j) = agree_says (block_of t k) (block_of t j) (members_agree t count sound k j a b c d s) in
      rw (← agree.state, ← one.private) e

  reached_owned : (n j : ℕ) → n ≤ count → 1 ≤ j → j ≤ count → reaches t (owned_up_to t user n) j ≡ true → owned_here (block_of t j) user ≡ true
  unfolding owned_up_to reaches
  reached_owned zero j h a b e = absurd (true≢false (sym e))
  reached_owned (suc n) j h a b e =
      go (owned_here (block_of t (suc n)) user) (reaches t (owned_up_to t user n) j) refl refl
      (sym (reaches_append t (owned_up_to t user n) (cond (owned_here (block_of t (suc n)) user) (suc n ∷ []) []) j) ∙ e)
      (reached_owned n j (omega arith) a b)
    where
      go : (u v : Bool) → owned_here (block_of t (suc n)) user ≡ u → reaches t (owned_up_to t user n) j ≡ v
          → (v || reaches t (cond (owned_here (block_of t (suc n)) user) (suc n ∷ []) []) j) ≡ true
          → (reaches t (owned_up_to t user n) j ≡ true → owned_here (block_of t j) user ≡ true) → owned_here (block_of t j) user ≡ true
      go u true f g i next = next g
      go true false f g i next =
          reaches_one t (suc n) j (rw f at i) (λ q. rw q f) (λ s. members_owned (suc n) j (omega arith) h a b s f)
      go false false f g i next = let z : false ≡ true = rw f at i in absurd (true≢false (sym z))

  pub owned_reached : (j : ℕ) → 1 ≤ j → j ≤ count → reaches t (owned_up_to t user count) j ≡ owned_here (block_of t j) user
  owned_reached j a b =
      both_ways (reaches t (owned_up_to t user count) j) (owned_here (block_of t j) user) (reached_owned count j (omega arith) a b)
      (λ e. reaches_named_one t (owned_up_to t user count) j (owned_one t user count j a ∙ rw (le-leb j count b) e))

-- The turns of the loop over all records.
module _ (x : List ℕ) (count : ℕ) (user : List ℕ) (state : ℕ) (name : List ℕ) (sound : SoundTable x count) (fits : Fitting state name) where
  abbrev picked : ℕ → Bool
  picked = reaches x (owned_up_to x user count)

  keeps : Keeps (settled state name)
  keeps = settled_keeps state name fits

  size : length x ≡ 512 * (count + 1)
  size = sound_size x count sound

  pub owned_start : Going x count (reaches x (owned_up_to x user count)) (settled state name) 0 x 0
  owned_start = going_start x count picked (settled state name) keeps size (reaches_zero x count sound (owned_up_to x user count) ∙ no_zero x user count)

  module _ (i : ℕ) (y : List ℕ) (altered : ℕ) (going : Going x count (reaches x (owned_up_to x user count)) (settled state name) i y altered) where
    pub owned_turn : {b z : List ℕ} {u : Bool} {c : Change} {e : ℕ} → i < count → b ≡ block_of y (i + 1) → u ≡ owned_here b user → c ≡ Settled state
        → z ≡ cond u (changed_in y (i + 1) (change_of c name)) y → e ≡ differ y z
        → Going x count (reaches x (owned_up_to x user count)) (settled state name) (i + 1) z (altered + e)
    unfolding change_of
    owned_turn {b} {z} {u} {c} {e} h at is by put d =
        going_turn x count picked (settled state name) keeps size i y altered going h u
        (owned_reached x count sound user (i + 1) (omega arith) (omega arith)
        ∙ ap (λ (v : List ℕ). owned_here v user) (sym (at ∙ going_next x count picked (settled state name) keeps size i y altered going h))
        ∙ sym is) z
        (put ∙ rw by) e d

    -- the same of block k, which is the next one
    pub owned_next : (k n : ℕ) {b z : List ℕ} {u : Bool} {c : Change} {e : ℕ} → k ≡ i + 1 → n ≡ k → i < count → b ≡ block_of y k → u ≡ owned_here b user
        → c ≡ Settled state → z ≡ cond u (changed_in y k (change_of c name)) y → e ≡ differ y z
        → Going x count (reaches x (owned_up_to x user count)) (settled state name) n z (altered + e)
    owned_next k n p q = rw (q, p) owned_turn

    pub owned_end : count ≤ i → i ≤ count → y ≡ after_of x count (reaches x (owned_up_to x user count)) (settled state name)
    owned_end = going_end x count picked (settled state name) keeps size i y altered going

    pub owned_sum : count ≤ i → i ≤ count → altered ≡ altered_up_to x y count
    owned_sum = going_sum x count picked (settled state name) keeps size i y altered going
