-- Which records an effect reaches: whole sets, each of them once, and never the header.
use Rattle.octets.specs.Standard.{ℕ, ◌<◌, ◌≤◌, Bool, true, false, ◌||◌, or-false, or_assoc, or-true, ◌≡◌, refl, sym, ◌∙◌, List, [], ◌∷◌, ◌++◌}
use Rattle.octets.specs.Standard.{arith, eqb, eqb-true, ne_eqb}
use Rattle.octets.specs.Number.{be16_at}
use Rattle.octets.specs.Run.{zero_between}
use Rattle.octets.specs.Sum.{sum_words}
use Rattle.octets.proofs.Chains.{chain_says}
use Rattle.octets.proofs.Runs.{zero_at}
use Rattle.record.specs.Fields.{set_of}
use Rattle.record.specs.HeaderBlock.{header_of, sound_counts, is_header, sound_numbers, sound_header_rest, sound_header}
use Rattle.record.specs.Networks.{sound_networks}
use Rattle.record.specs.Sets.{same_set}
use Rattle.record.proofs.OneSet.{OneSet, set_apart, set_says, set_sym, set_trans, set_own}
use Rattle.blocks.specs.Blocks.{block_of}
use Rattle.table.specs.SoundTable.{SoundTable}
use Rattle.table.proofs.Sound.{sound_tests}
use Rattle.blocks.specs.Changed.{is_one}
use Rattle.rewrite.specs.Change.{reaches}
use Rattle.rewrite.proofs.Sound.{keeping_sets}
use Rattle.rewrite.proofs.Tables.{Closed, Keeping}

-- Two answers are the same if each follows from the other.
pub both_ways : (x y : Bool) → (x ≡ true → y ≡ true) → (y ≡ true → x ≡ true) → x ≡ y
both_ways true y f g = sym (f refl)
both_ways false true f g = g refl
both_ways false false f g = refl

module _ (t : List ℕ) where
  -- block j is block k or of its set
  abbrev one : ℕ → ℕ → Bool
  one k j = eqb j k || same_set (block_of t k) (block_of t j)

  one_says : {P : Type 0} (k j : ℕ) → one k j ≡ true → (j ≡ k → P) → (same_set (block_of t k) (block_of t j) ≡ true → P) → P
  one_says {P} k j e f g = go (eqb j k) refl e
    where
      go : (x : Bool) → eqb j k ≡ x → (x || same_set (block_of t k) (block_of t j)) ≡ true → P
      go true a b = f (eqb-true j k a)
      go false a b = g b

  one_set : (k j : ℕ) → same_set (block_of t k) (block_of t j) ≡ true → one k j ≡ true
  one_set k j e = rw e (or-true (eqb j k))

  one_next : (k i j : ℕ) → same_set (block_of t i) (block_of t j) ≡ true → one k i ≡ true → one k j ≡ true
  one_next k i j s e =
      one_set k j
      (one_says k i e (λ q. rw (← q) s) (λ f. set_trans (block_of t k) (block_of t i) (block_of t j) f s))

  one_closed : (k : ℕ) → Closed t (one k)
  one_closed k i j s = both_ways (one k i) (one k j) (one_next k i j s) (one_next k j i (set_sym (block_of t i) (block_of t j) s))

  -- What is named is reached, and what one name reaches is its block or of its set.
  pub reaches_named_one : (ks : List ℕ) (j : ℕ) → is_one ks j ≡ true → reaches t ks j ≡ true
  unfolding reaches is_one
  reaches_named_one [] j e = e
  reaches_named_one (k ∷ ks) j e = go (eqb j k) (same_set (block_of t k) (block_of t j)) e (reaches_named_one ks j)
    where
      go : (x y : Bool) → (x || is_one ks j) ≡ true → (is_one ks j ≡ true → reaches t ks j ≡ true) → (x || y || reaches t ks j) ≡ true
      go true y f next = refl
      go false true f next = refl
      go false false f next = next f

  pub reaches_one : {P : Type 0} (k j : ℕ) → reaches t (k ∷ []) j ≡ true → (j ≡ k → P) → (same_set (block_of t k) (block_of t j) ≡ true → P) → P
  unfolding reaches
  reaches_one k j e = one_says k j (sym (or-false (one k j)) ∙ e)

  -- An effect reaches whole sets.
  pub reaches_closed : (ks : List ℕ) → Closed t (reaches t ks)
  unfolding reaches
  reaches_closed [] i j s = refl
  reaches_closed (k ∷ ks) i j s = rw (one_closed k i j s, reaches_closed ks i j s)

  pub reaches_append : (ks ls : List ℕ) (j : ℕ) → reaches t (ks ++ ls) j ≡ (reaches t ks j || reaches t ls j)
  unfolding reaches
  reaches_append [] ls j = refl
  reaches_append (k ∷ ks) ls j = rw (reaches_append ks ls j) (sym (or_assoc (one k j) (reaches t ks j) (reaches t ls j)))

  -- A record without a set, and one with a set.
  alone : (k j : ℕ) → set_of (block_of t k) ≡ 0 → same_set (block_of t k) (block_of t j) ≡ false
  alone k j e = sym (set_apart (block_of t k) (block_of t j) refl refl (rw e))

  pub reaches_alone : (k j : ℕ) → set_of (block_of t k) ≡ 0 → reaches t (k ∷ []) j ≡ eqb j k
  unfolding reaches
  reaches_alone k j e = rw (alone k j e) (or-false (eqb j k || false) ∙ or-false (eqb j k))

  pub reaches_members : (k j : ℕ) → 0 < set_of (block_of t k) → reaches t (k ∷ []) j ≡ same_set (block_of t k) (block_of t j)
  unfolding reaches
  reaches_members k j h = or-false (one k j) ∙ go (eqb j k) refl
    where
      go : (x : Bool) → eqb j k ≡ x → (x || same_set (block_of t k) (block_of t j)) ≡ same_set (block_of t k) (block_of t j)
      go true e = let q : j ≡ k = eqb-true j k e in rw q (sym (set_own (block_of t k) h))
      go false e = refl

  -- Where no record has a set, an effect reaches the records named and no other.
  pub reaches_named : ((k : ℕ) → set_of (block_of t k) ≡ 0) → (ks : List ℕ) (j : ℕ) → reaches t ks j ≡ is_one ks j
  unfolding reaches is_one
  reaches_named none [] j = refl
  reaches_named none (k ∷ ks) j = rw (alone k j (none k), reaches_named none ks j, or-false (eqb j k))

-- The header has no set: those bytes of it are zero.
two_zeros : (b : List ℕ) → zero_between b 400 408 ≡ true → set_of b ≡ 0
unfolding be16_at
two_zeros b z = rw (zero_at b 400 408 z 406 (omega arith) (omega arith), zero_at b 400 408 z 407 (omega arith) (omega arith))

header_alone : (b : List ℕ) → sound_header b ≡ true → set_of b ≡ 0
unfolding sound_header
header_alone b e =
    let two = chain_says (sound_counts (header_of b)) (_ ∷ []) e in
    let tests : List Bool = is_header (header_of b) ∷ sound_numbers (header_of b) ∷ sound_header_rest b (header_of b) ∷ sound_networks b (header_of b).networks ∷ [] in
    let s = chain_says (eqb (sum_words b 128) 0) tests (two 1) in
    let r = chain_says (zero_between b 2 4) (_ ∷ _ ∷ _ ∷ _ ∷ []) (s 3) in
    two_zeros b (r 3)

module _ (t : List ℕ) (count : ℕ) (sound : SoundTable t count) where
  pub header_set : set_of (block_of t 0) ≡ 0
  header_set = header_alone (block_of t 0) (sound_tests t count sound).header

  not_header : (k : ℕ) → same_set (block_of t k) (block_of t 0) ≡ false
  not_header k = go (same_set (block_of t k) (block_of t 0)) refl
    where
      go : (x : Bool) → same_set (block_of t k) (block_of t 0) ≡ x → x ≡ false
      go true e =
          let s : OneSet (block_of t k) (block_of t 0) = set_says (block_of t k) (block_of t 0) e in
          absurd (omega (arith, s.numbered, s.number, header_set))
      go false e = refl

  -- the header is reached only if it is named
  pub reaches_zero : (ks : List ℕ) → reaches t ks 0 ≡ is_one ks 0
  unfolding reaches is_one
  reaches_zero [] = refl
  reaches_zero (k ∷ ks) = rw (not_header k, reaches_zero ks, or-false (eqb 0 k))

  pub reaches_later : (k : ℕ) → 1 ≤ k → reaches t (k ∷ []) 0 ≡ false
  unfolding is_one
  reaches_later k a = reaches_zero (k ∷ []) ∙ rw (ne_eqb 0 k (omega arith))

-- A table that keeps what every effect keeps has the same sets, so that effects reach the same records.
pub reaches_kept : (x y : List ℕ) (count : ℕ) → Keeping x y count → SoundTable x count → (ks : List ℕ) (j : ℕ) → reaches y ks j ≡ reaches x ks j
unfolding reaches
reaches_kept x y count keeping sound [] j = refl
reaches_kept x y count keeping sound (k ∷ ks) j = rw (keeping_sets x y count keeping sound k j, reaches_kept x y count keeping sound ks j)
