-- Vectors marked used: a sound one is sound still, of the same private identity, and unused no more; and so is a file of them sound.
use Rattle.std.specs.Prelude.{Ok}
use Rattle.octets.specs.Standard.{ℕ, ◌+◌, ◌/◌, ◌%◌, ◌<◌, ◌≤◌, Bool, true, false, cond, ◌≡◌, sym, ◌∙◌, ap, ◌≢◌, List, arith, length, get_or, set}
use Rattle.octets.specs.Standard.{length-set}
use Rattle.octets.proofs.Parts.{part_alike}
use Rattle.octets.proofs.Runs.{zero_alike}
use Rattle.blocks.specs.Blocks.{block_of}
use Rattle.blocks.proofs.Blocks.{block_length}
use Rattle.blocks.proofs.Sealed.{sealed_zero}
use Rattle.vectors.specs.VectorBlock.{vector_of, sound_rest, sound_vector, card_of}
use Rattle.vectors.specs.VectorFile.{check_vectors, SoundVectors}
use Rattle.blocks.specs.Changed.{is_one}
use Rattle.vectors.specs.Marked.{marked_used, spent}
use Rattle.vectors.proofs.Marks.{marked_length, marked_other, marked_used_lem, spent_length, spent_block}
use Rattle.vectors.proofs.Sound.{VectorLimits, VectorTests, vector_says, vector_holds, whole_blocks, blocks_are, sound_vector_lem, few_all}
use Rattle.vectors.proofs.Sound.{block_fits, vectors_hold}

module _ (b : List ℕ) (whole : length b ≡ 512) (sound : sound_vector b ≡ true) where
  was : VectorTests b
  was = vector_says b sound

  byte : (i : ℕ) → i ≢ 1 → i < 508 → get_or (marked_used b) i 0 ≡ get_or b i 0
  byte = marked_other b

  limits : VectorLimits (vector_of (marked_used b))
  unfolding vector_of
  limits =
      let l = was.limits in
      record {
        kind = rw (byte 0 (omega arith) (omega arith)) l.kind;
        used = rw (marked_used_lem b whole) (omega arith);
        xres_least = rw (byte 2 (omega arith) (omega arith)) l.xres_least;
        xres = rw (byte 2 (omega arith) (omega arith)) l.xres;
        private_least = rw (byte 3 (omega arith) (omega arith)) l.private_least;
        private = rw (byte 3 (omega arith) (omega arith)) l.private;
      }

  rest_same : sound_rest (marked_used b) (vector_of (marked_used b)) ≡ sound_rest b (vector_of b)
  unfolding vector_of
  rest_same =
      rw (
        byte 2 (omega arith) (omega arith),
        byte 3 (omega arith) (omega arith),
        zero_alike (marked_used b) b (4 + get_or b 3 0) 132 (λ i u v. byte i (omega arith) (omega arith)),
        zero_alike (marked_used b) b (164 + get_or b 2 0) 180 (λ i u v. byte i (omega arith) (omega arith)),
        zero_alike (marked_used b) b 212 508 (λ i u v. byte i (omega arith) (omega arith)),
      )

  pub marked_sound : sound_vector (marked_used b) ≡ true
  unfolding marked_used
  marked_sound =
      vector_holds (marked_used b) (record { sum = sealed_zero (set b 1 1) (length-set b 1 1 ∙ whole); limits = limits; rest = rest_same ∙ was.rest })

  pub marked_card : card_of (marked_used b) ≡ card_of b
  unfolding card_of vector_of
  marked_card =
      let l : get_or b 3 0 ≤ 128 = was.limits.private in
      rw (byte 3 (omega arith) (omega arith))
      (part_alike (marked_used b) b 4 (get_or b 3 0) (marked_length b) (λ i u v. byte i (omega arith) (omega arith)))

-- The blocks of a file that are spent, and the others.
module _ (v : List ℕ) (whole : length v % 512 ≡ 0) (ks : List ℕ) (k : ℕ) (here : k < length v / 512) where
  pub spent_kept : is_one ks k ≡ false → block_of (spent v ks) k ≡ block_of v k
  spent_kept e = spent_block v whole ks k here ∙ rw e

  pub spent_marked : is_one ks k ≡ true → block_of (spent v ks) k ≡ marked_used (block_of v k)
  spent_marked e = spent_block v whole ks k here ∙ rw e

-- A sound file stays sound, with as many blocks.
module _ (v : List ℕ) (s : SoundVectors v) (ks : List ℕ) where
  one_sound : (k : ℕ) → k < length v / 512 → sound_vector (block_of (spent v ks) k) ≡ true
  one_sound k h = rw (spent_block v (whole_blocks v s) ks k h) (go (is_one ks k))
    where
      go : (x : Bool) → sound_vector (cond x (marked_used (block_of v k)) (block_of v k)) ≡ true
      go true = marked_sound (block_of v k) (block_length v k (block_fits v k h)) (sound_vector_lem v s k h)
      go false = sound_vector_lem v s k h

  pub spent_sound : check_vectors (spent v ks) ≡ check_vectors v
  spent_sound =
      let n : length (spent v ks) ≡ length v = spent_length v (whole_blocks v s) ks in
      vectors_hold (spent v ks) (rw n (whole_blocks v s)) (rw n (few_all v s)) (λ k h. one_sound k (rw n at h))
      ∙ ap Ok (ap (λ (m : ℕ). m / 512) n ∙ blocks_are v s)
      ∙ sym s.checked
