-- The pieces of the vector file: how many, each by the tests on the way, and the turns of the loop over them.
use Rattle.octets.specs.Standard.{ℕ, ◌+◌, ◌-◌, ◌*◌, ◌/◌, ◌%◌, ◌<◌, ◌≤◌, Bool, true, false, ◌&&◌, and-true, and-false, cond, ◌≡◌, refl, sym, ◌∙◌, min, eqb-true, eqb-false, List, [], ◌∷◌}
use Rattle.octets.specs.Standard.{arith, length, bit_or, leb, eqb, ltb, lt-ltb, le-ltb, ltb-true, leb-true}
use Rattle.octets.proofs.Chains.{test, chain_says}
use Rattle.octets.proofs.Runs.{or_zero}
use Rattle.blocks.specs.Blocks.{block_of, first_bad}
use Rattle.octets.specs.Run.{zero_between}
use Rattle.octets.specs.Sum.{sum_words}
use Rattle.vectors.specs.VectorBlock.{vector_of, sound_limits, sound_rest, sound_vector}
use Rattle.vectors.specs.declared.vector.Vector.{Vector}
use Rattle.vectors.specs.VectorFile.{pieces_of, sound_piece, check_vectors}

-- The numbers are tested first, and the rest only where they are within their limits.
module _ (v : Vector) {l : Bool} (e : l ≡ sound_limits v) (good : l ≡ true) where
  limits_say : (i : ℕ) → test (eqb v.kind 3 ∷ leb v.used 1 ∷ leb 4 v.xres ∷ leb v.xres 16 ∷ leb 1 v.private ∷ leb v.private 128 ∷ []) i ≡ true
  limits_say =
      chain_says (eqb v.kind 3) (leb v.used 1 ∷ leb 4 v.xres ∷ leb v.xres 16 ∷ leb 1 v.private ∷ leb v.private 128 ∷ []) (sym e ∙ good)

  pub limits_xres : v.xres ≤ 16
  limits_xres = leb-true _ _ (limits_say 3)

  pub limits_private : v.private ≤ 128
  limits_private = leb-true _ _ (limits_say 5)

pub vector_within : (b : List ℕ) (v : Vector) (s : ℕ) (l r : Bool) → v ≡ vector_of b → s ≡ sum_words b 128 → l ≡ sound_limits v → l ≡ true → r ≡ sound_rest b v
    → (eqb s 0 && r) ≡ sound_vector b
unfolding sound_vector
vector_within b v s l r ev es el good er =
    let e : sound_limits (vector_of b) ≡ true = rw ev at (sym el ∙ good) in
    rw (e, and-true, es, er, ev)

pub vector_past : (b : List ℕ) (v : Vector) (l : Bool) → v ≡ vector_of b → l ≡ sound_limits v → l ≡ false → l ≡ sound_vector b
unfolding sound_vector
vector_past b v l ev el bad = let e : sound_limits (vector_of b) ≡ false = rw ev at (sym el ∙ bad) in bad ∙ rw (e, and-false)

-- The bits that are set where a vector is to be zero.
pub rest_none : (b : List ℕ) (v : Vector) (c d e : ℕ) → eqb c 0 ≡ zero_between b (4 + v.private) 132 → eqb d 0 ≡ zero_between b (164 + v.xres) 180
    → eqb e 0 ≡ zero_between b 212 508 → eqb (bit_or (bit_or c d) e) 0 ≡ sound_rest b v
rest_none b v c d e ec ed ee = simp or_zero (rw (ec, ed, ee))

-- a piece past the 4,096 is not tested further
pub piece_past : (k : ℕ) {x : Bool} {A : Type 0} → 4096 ≤ k → x ≡ ltb k 4096 → x ≡ true → A
piece_past k h e f = let l : ltb k 4096 ≡ true = cc in absurd (omega (arith, ltb-true _ _ l))

module _ (v : List ℕ) where
  pub pieces_are : length v / 512 + min 1 (length v % 512) ≡ pieces_of v
  unfolding pieces_of
  pieces_are = go (eqb (length v % 512) 0) refl
    where
      go : (x : Bool) → eqb (length v % 512) 0 ≡ x → length v / 512 + min 1 (length v % 512) ≡ length v / 512 + cond x 0 1
      go true e = omega (arith, eqb-true (length v % 512) 0 e)
      go false e = omega (arith, eqb-false (length v % 512) 0 e)

  module _ (k : ℕ) where
    pub piece_far : {x : Bool} → 4096 ≤ k → x ≡ false → x ≡ sound_piece v k
    unfolding sound_piece
    piece_far h e = rw (le-ltb _ _ h) e

    module _ {x : Bool} (h : k < 4096) (fits : x ≡ leb (512 * k + 512) (length v)) where
      pub piece_cut : x ≡ false → x ≡ sound_piece v k
      unfolding sound_piece
      piece_cut e = rw (lt-ltb _ _ h, ← fits, e)

      pub piece_whole : (b : List ℕ) {y : Bool} → x ≡ true → b ≡ block_of v k → y ≡ sound_vector b → y ≡ sound_piece v k
      unfolding sound_piece
      piece_whole b e f g = rw (lt-ltb _ _ h, ← fits, e, ← f) g

    -- a piece that is sound is one of 4,096
    pub piece_near : sound_piece v k ≡ true → k < 4096
    unfolding sound_piece
    piece_near e = let s = chain_says _ (_ ∷ _ ∷ []) e in ltb-true _ _ (s 0)

-- the loop begins with all of them
pub turn_all : (v : List ℕ) {n : ℕ} → n ≡ pieces_of v → check_vectors v ≡ first_bad (sound_piece v) n (n - 0) 0
unfolding check_vectors
turn_all v e = let i : pieces_of v - 0 ≡ pieces_of v = omega arith in rw (e, i)

-- the next piece is one of 4,096 still
pub turn_near : (v : List ℕ) (k : ℕ) {x : Bool} → x ≡ sound_piece v k → x ≡ true → k + 1 ≤ 4096
turn_near v k e f = let g : sound_piece v k ≡ true = cc in omega (arith, piece_near v k g)
