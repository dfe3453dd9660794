-- What a sound vector file says, and that a file that says so is sound.
use Rattle.std.specs.Prelude.{Ok}
use Rattle.octets.specs.Standard.{ℕ, ◌+◌, ◌*◌, ◌/◌, ◌%◌, ◌<◌, ◌≤◌, Bool, true, false, ◌≡◌, refl, sym, ◌∙◌, List, [], ◌∷◌, arith, length, eqb, leb}
use Rattle.octets.specs.Standard.{ltb, eqb-true, eq-eqb, leb-true, ltb-true, ltb-false, lt-ltb, le-leb}
use Rattle.octets.proofs.Chains.{chain_says}
use Rattle.blocks.specs.Blocks.{block_of}
use Rattle.blocks.proofs.First.{good_each, good_count, all_good}
use Rattle.octets.specs.Sum.{sum_words}
use Rattle.vectors.specs.VectorBlock.{vector_of, sound_limits, sound_rest, sound_vector}
use Rattle.vectors.specs.declared.vector.Vector.{Vector}
use Rattle.vectors.specs.VectorFile.{pieces_of, sound_piece, check_vectors, SoundVectors}

-- A vector's tests, taken out of the check once; and put into it.
pub record VectorLimits (v : Vector) : Type 0 where
  pub kind : v.kind ≡ 3
  pub used : v.used ≤ 1
  pub xres_least : 4 ≤ v.xres
  pub xres : v.xres ≤ 16
  pub private_least : 1 ≤ v.private
  pub private : v.private ≤ 128

pub record VectorTests (b : List ℕ) : Type 0 where
  pub sum : sum_words b 128 ≡ 0
  pub limits : VectorLimits (vector_of b)
  pub rest : sound_rest b (vector_of b) ≡ true

pub vector_says : (b : List ℕ) → sound_vector b ≡ true → VectorTests b
unfolding sound_vector
vector_says b e =
    let v = vector_of b in
    let s = chain_says (eqb (sum_words b 128) 0) (sound_limits v ∷ sound_rest b v ∷ []) e in
    let l = chain_says (eqb v.kind 3) (leb v.used 1 ∷ leb 4 v.xres ∷ leb v.xres 16 ∷ leb 1 v.private ∷ leb v.private 128 ∷ []) (s 1) in
    record {
      sum = eqb-true _ _ (s 0);
      limits =
          record {
            kind = eqb-true _ _ (l 0);
            used = leb-true _ _ (l 1);
            xres_least = leb-true _ _ (l 2);
            xres = leb-true _ _ (l 3);
            private_least = leb-true _ _ (l 4);
            private = leb-true _ _ (l 5);
          };
      rest = s 2;
    }

pub vector_holds : (b : List ℕ) → VectorTests b → sound_vector b ≡ true
unfolding sound_vector
vector_holds b t =
    let l = t.limits in
    rw (
      eq-eqb _ _ t.sum,
      eq-eqb _ _ l.kind,
      le-leb _ _ l.used,
      le-leb _ _ l.xres_least,
      le-leb _ _ l.xres,
      le-leb _ _ l.private_least,
      le-leb _ _ l.private,
    )
    t.rest

-- A sound piece is one of 4,096, whole, and a sound vector.
record Piece (v : List ℕ) (k : ℕ) : Type 0 where
  near : k < 4096
  whole : 512 * k + 512 ≤ length v
  sound : sound_vector (block_of v k) ≡ true

piece_says : (v : List ℕ) (k : ℕ) → sound_piece v k ≡ true → Piece v k
unfolding sound_piece
piece_says v k e =
    let s = chain_says _ (_ ∷ _ ∷ []) e in
    record { near = ltb-true _ _ (s 0); whole = leb-true _ _ (s 1); sound = s 2 }

module _ (v : List ℕ) (s : SoundVectors v) where
  piece : (k : ℕ) → k < pieces_of v → Piece v k
  unfolding check_vectors
  piece k h = piece_says v k (good_each (sound_piece v) (pieces_of v) s.count (pieces_of v) 0 s.checked k (omega arith) (omega arith))

  -- it has no piece that is cut, and so many blocks
  pub whole_blocks : length v % 512 ≡ 0
  unfolding pieces_of
  whole_blocks = go (eqb (length v % 512) 0) refl
    where
      go : (x : Bool) → eqb (length v % 512) 0 ≡ x → length v % 512 ≡ 0
      go true e = eqb-true _ _ e
      go false e =
          let n : pieces_of v ≡ length v / 512 + 1 = rw e in
          let p : Piece v (length v / 512) = piece (length v / 512) (omega (arith, n)) in
          omega (arith, p.whole)

  pieces_are : pieces_of v ≡ length v / 512
  unfolding pieces_of
  pieces_are = rw (eq-eqb _ _ whole_blocks) (omega arith)

  pub blocks_are : length v / 512 ≡ s.count
  unfolding check_vectors
  blocks_are = sym pieces_are ∙ good_count (sound_piece v) (pieces_of v) s.count (pieces_of v) 0 s.checked

  pub sound_vector_lem : (k : ℕ) → k < length v / 512 → sound_vector (block_of v k) ≡ true
  sound_vector_lem k h = (piece k (rw pieces_are h)).sound

  pub few_blocks : (k : ℕ) → k < length v / 512 → k < 4096
  few_blocks k h = (piece k (rw pieces_are h)).near

  pub few_all : length v / 512 ≤ 4096
  few_all = go (ltb 4096 (length v / 512)) refl
    where
      go : (x : Bool) → ltb 4096 (length v / 512) ≡ x → length v / 512 ≤ 4096
      go true e = omega (arith, few_blocks 4096 (ltb-true _ _ e))
      go false e = ltb-false _ _ e

  -- XRES has room in each of them
  pub sound_xres : (k : ℕ) → k < length v / 512 → (vector_of (block_of v k)).xres ≤ 16
  sound_xres k h = (vector_says (block_of v k) (sound_vector_lem k h)).limits.xres

-- block k of a file that has so many
pub block_fits : (v : List ℕ) (k : ℕ) → k < length v / 512 → 512 * k + 512 ≤ length v
block_fits v k h = omega arith

-- Whole blocks, at most 4,096, each a sound vector: the file is sound.
pub vectors_hold : (v : List ℕ) → length v % 512 ≡ 0 → length v / 512 ≤ 4096 → ((k : ℕ) → k < length v / 512 → sound_vector (block_of v k) ≡ true)
    → check_vectors v ≡ Ok (length v / 512)
unfolding check_vectors pieces_of sound_piece
vectors_hold v e f h =
    let n : length v / 512 + 0 ≡ length v / 512 = omega arith in
    rw (eq-eqb _ _ e, n)
    (all_good (sound_piece v) (length v / 512) (length v / 512) 0
    (λ j a b. rw (lt-ltb j 4096 (omega arith), le-leb (512 * j + 512) (length v) (omega arith)) (h j (omega arith))))
