-- The pieces of a vector file, one after the other.
use Rattle.std.specs.Prelude.{Ok, Err}
use Rattle.octets.specs.Standard.{ℕ, ◌+◌, ◌-◌, ◌<◌, ◌≤◌, Bool, true, false, ◌≡◌, sym, ◌∙◌, List, arith}
use Rattle.blocks.specs.Blocks.{first_bad}
use Rattle.blocks.proofs.First.{first_bad_lem, first_more, first_none}
use Rattle.vectors.specs.VectorFile.{pieces_of, sound_piece, check_vectors}
use Rattle.vectors.proofs.Pieces.{piece_near}

-- the loop over them, of which k are passed
pub record Passed (v : List ℕ) (k : ℕ) : Type 0 where
  pub within : k ≤ pieces_of v
  pub near : k ≤ 4096
  pub left : check_vectors v ≡ first_bad (sound_piece v) (pieces_of v) (pieces_of v - k) k

pub passed_none : (v : List ℕ) → Passed v 0
unfolding check_vectors
passed_none v = let n : pieces_of v - 0 ≡ pieces_of v = omega arith in record { within = omega arith; near = omega arith; left = rw n }

module _ (v : List ℕ) (k : ℕ) (so : Passed v k) where
  module _ {x : Bool} (more : k < pieces_of v) (is : x ≡ sound_piece v k) where
    pub passed_bad : x ≡ false → Err k ≡ check_vectors v
    passed_bad e = first_bad_lem (sound_piece v) (pieces_of v) (pieces_of v) k so.left more is e

    pub passed_more : x ≡ true → Passed v (k + 1)
    passed_more e =
        record {
          within = omega arith;
          near = omega (arith, piece_near v k (sym is ∙ e));
          left = first_more (sound_piece v) (pieces_of v) (pieces_of v) k so.left more is e;
        }

  pub passed_all : pieces_of v ≤ k → Ok (pieces_of v) ≡ check_vectors v
  passed_all h = first_none (sound_piece v) (pieces_of v) (pieces_of v) k so.left h
