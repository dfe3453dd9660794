-- The bytes of a moved block: what is written anew, and what stays.
use Rattle.octets.specs.Standard.{ℕ, ◌+◌, ◌-◌, ◌<◌, ◌≤◌, ◌^◌, Bool, true, false, ◌&&◌, ◌||◌, true≢false, ◌≡◌, refl, sym, ◌∙◌, ap, ◌≢◌, ◌⊎◌, inl, inr}
use Rattle.octets.specs.Standard.{List, arith, ltb, leb, eqb, length, get_or, set, length-set, get_or-set_same, get_or-set_other, ltb-true, ltb-false}
use Rattle.octets.specs.Standard.{leb-false, lt-leb, le-leb, le-ltb, eqb-true, eqb-false, ne_eqb}
use Rattle.octets.specs.Number.{put_be32}
use Rattle.octets.specs.Sum.{sum_words}
use Rattle.octets.proofs.Runs.{name_apart, name_here}
use Rattle.octets.proofs.Numbers.{bytes32, put32_name, word_put, be32_alike}
use Rattle.record.specs.Fields.{edition_of, issue_of}
use Rattle.blocks.specs.Sealed.{sealed}
use Rattle.blocks.proofs.Sealed.{sealed_zero, sealed_length, seal_before, seal_alike}
use Rattle.blocks.proofs.Changed.{Whole}
use Rattle.moving.specs.Moves.{moved}
use Rattle.moving.specs.Carried.{movable}

-- A byte that a move may not write, and where such bytes are.
record Apart (i : ℕ) : Type 0 where
  edition : i ≢ 1
  issue : (j : ℕ) → j < 4 → i ≢ 408 + j
  before : i < 508

apart : (i : ℕ) → movable i ≡ false → Apart i
apart i h = go (eqb i 1) (leb 408 i) (ltb i 412) (leb 508 i) refl refl refl refl h
  where
    go : (u v w x : Bool) → eqb i 1 ≡ u → leb 408 i ≡ v → ltb i 412 ≡ w → leb 508 i ≡ x → (u || v && w || x) ≡ false → Apart i
    go false false w false a b c d g =
        record { edition = eqb-false i 1 a; issue = λ j l. let m : i < 408 = leb-false 408 i b in omega arith; before = leb-false 508 i d }
    go false true false false a b c d g =
        record { edition = eqb-false i 1 a; issue = λ j l. let m : 412 ≤ i = ltb-false i 412 c in omega arith; before = leb-false 508 i d }
    go true v w x a b c d g = absurd (true≢false g)
    go false true true x a b c d g = absurd (true≢false g)
    go false false w true a b c d g = absurd (true≢false g)
    go false true false true a b c d g = absurd (true≢false g)

module _ (i : ℕ) where
  pub stays_first : 2 ≤ i → i < 408 → movable i ≡ false
  stays_first a b = rw (ne_eqb i 1 (omega arith), lt-leb 408 i b) (lt-leb 508 i (omega arith))

  pub stays_last : 412 ≤ i → i < 508 → movable i ≡ false
  stays_last a b = rw (ne_eqb i 1 (omega arith), le-leb 408 i (omega arith), le-ltb i 412 a) (lt-leb 508 i b)

-- The block before its check word.
abbrev pub drafted : ℕ → ℕ → List ℕ → List ℕ
drafted edition issue b = put_be32 (set b 1 edition) 408 issue

module _ (edition issue : ℕ) (b : List ℕ) where
  pub drafted_length : length (drafted edition issue b) ≡ length b
  unfolding put_be32
  drafted_length = simp length-set

  pub moved_length : length (moved edition issue b) ≡ length b
  unfolding moved
  moved_length = sealed_length (drafted edition issue b) ∙ drafted_length

  drafted_other : (i : ℕ) → i ≢ 1 → ((j : ℕ) → j < 4 → i ≢ 408 + j) → get_or (drafted edition issue b) i 0 ≡ get_or b i 0
  drafted_other i e h =
      ap (λ (l : List ℕ). get_or l i 0) (put32_name (set b 1 edition) 408 issue)
      ∙ name_apart (set b 1 edition) 408 (bytes32 issue) 4 i h
      ∙ get_or-set_other b 1 i edition 0 e

  -- what stays
  pub moved_other : (i : ℕ) → movable i ≡ false → get_or (moved edition issue b) i 0 ≡ get_or b i 0
  unfolding moved
  moved_other i h = let p : Apart i = apart i h in seal_before (drafted edition issue b) i p.before ∙ drafted_other i p.edition p.issue

  -- what is new
  module _ (whole : length b ≡ 512) where
    drafted_edition : get_or (drafted edition issue b) 1 0 ≡ edition
    drafted_edition =
        ap (λ (l : List ℕ). get_or l 1 0) (put32_name (set b 1 edition) 408 issue)
        ∙ name_apart (set b 1 edition) 408 (bytes32 issue) 4 1 (λ j l. omega arith)
        ∙ get_or-set_same b 1 edition 0 (omega arith)

    drafted_issue : (j : ℕ) → j < 4 → get_or (drafted edition issue b) (408 + j) 0 ≡ get_or (bytes32 issue) j 0
    drafted_issue j h =
        ap (λ (l : List ℕ). get_or l (408 + j) 0) (put32_name (set b 1 edition) 408 issue)
        ∙ name_here (set b 1 edition) 408 (bytes32 issue) 4 j (rw length-set (omega arith)) h

    pub moved_edition : edition_of (moved edition issue b) ≡ edition
    unfolding moved
    moved_edition = seal_before (drafted edition issue b) 1 (omega arith) ∙ drafted_edition

    pub moved_issue : issue < 2 ^ 32 → issue_of (moved edition issue b) ≡ issue
    unfolding moved
    moved_issue h =
        be32_alike (sealed (drafted edition issue b)) (drafted edition issue b) 408 408 (λ j l. seal_before (drafted edition issue b) (408 + j) (omega arith))
        ∙ word_put (set b 1 edition) 408 issue (rw length-set (omega arith)) h

    pub moved_sum : sum_words (moved edition issue b) 128 ≡ 0
    unfolding moved
    moved_sum = sealed_zero (drafted edition issue b) (drafted_length ∙ whole)

pub moved_whole : (edition issue : ℕ) → Whole (moved edition issue)
moved_whole edition issue b h = moved_length edition issue b ∙ h

-- Where a byte before the check word is: the edition, the issue number, or elsewhere.
where_is : (i : ℕ) → i < 508 → (i ≡ 1) ⊎ (((408 ≤ i) × (i < 412)) ⊎ ((i ≢ 1) × ((j : ℕ) → j < 4 → i ≢ 408 + j)))
where_is i l = go (eqb i 1) (ltb i 408) (ltb i 412) refl refl refl
  where
    go : (u v w : Bool) → eqb i 1 ≡ u → ltb i 408 ≡ v → ltb i 412 ≡ w
        → (i ≡ 1) ⊎ (((408 ≤ i) × (i < 412)) ⊎ ((i ≢ 1) × ((j : ℕ) → j < 4 → i ≢ 408 + j)))
    go true v w a b c = inl (eqb-true i 1 a)
    go false true w a b c = inr (inr (eqb-false i 1 a, λ j k. let m : i < 408 = ltb-true i 408 b in omega arith))
    go false false true a b c = inr (inl (ltb-false i 408 b, ltb-true i 412 c))
    go false false false a b c = inr (inr (eqb-false i 1 a, λ j k. let m : 412 ≤ i = ltb-false i 412 c in omega arith))

-- Moved twice is moved once, to where it was moved last.
module _ (edition issue e n : ℕ) (b : List ℕ) (h : length b ≡ 512) where
  abbrev c : List ℕ
  c = sealed (drafted e n b)

  whole : length c ≡ 512
  whole = sealed_length (drafted e n b) ∙ drafted_length e n b ∙ h

  alike : (i : ℕ) → i < 508 → (i ≡ 1) ⊎ (((408 ≤ i) × (i < 412)) ⊎ ((i ≢ 1) × ((j : ℕ) → j < 4 → i ≢ 408 + j)))
      → get_or (drafted edition issue c) i 0 ≡ get_or (drafted edition issue b) i 0
  alike i l (inl q) = rw q (drafted_edition edition issue c whole ∙ sym (drafted_edition edition issue b h))
  alike i l (inr (inl q)) =
      let k : i ≡ 408 + (i - 408) = omega (arith, q.0, q.1) in
      let m : i - 408 < 4 = omega (arith, q.0, q.1) in
      ap (λ (j : ℕ). get_or (drafted edition issue c) j 0) k ∙ drafted_issue edition issue c whole (i - 408) m
      ∙ sym (ap (λ (j : ℕ). get_or (drafted edition issue b) j 0) k ∙ drafted_issue edition issue b h (i - 408) m)
  alike i l (inr (inr q)) =
      drafted_other edition issue c i q.0 q.1 ∙ seal_before (drafted e n b) i l ∙ drafted_other e n b i q.0 q.1
      ∙ sym (drafted_other edition issue b i q.0 q.1)

  pub moved_twice : moved edition issue (moved e n b) ≡ moved edition issue b
  unfolding moved
  moved_twice =
      seal_alike (drafted edition issue c) (drafted edition issue b) (drafted_length edition issue c ∙ whole) (drafted_length edition issue b ∙ h)
      (λ i l. alike i l (where_is i l))
