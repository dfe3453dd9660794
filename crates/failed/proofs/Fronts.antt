-- What Failed-AVP holds of an AVP does not depend on what is behind it.
use Rattle.octets.specs.Standard.{ℕ, ◌≤◌, ◌≡◌, refl, sym, ◌∙◌, List, ◌++◌, append_assoc, true, false, arith, length, take, drop, length-append}
use Rattle.octets.specs.Standard.{take_all, take_at, take-append-le, eqb, le-leb, ne_eqb}
use Rattle.diameter.specs.Avp.{avp_head, avp_len, sound}
use Rattle.diameter.specs.AvpAt.{avp_of, avp_at}
use Rattle.diameter.specs.Put.{Piece, Whole}
use Rattle.diameter.proofs.Walks.{sound_says}
use Rattle.diameter.proofs.Pieces.{same_len, same_head, sound_big}
use Rattle.failed.specs.Failing.{head_part, failed_of}

module _ (a y : List ℕ) (right : sound a ≡ true) (exact : avp_len a ≡ length a) where
  head_front : head_part (a ++ y) ≡ head_part a
  unfolding head_part
  head_front =
      let h = sound_says a right in
      let p : avp_head a ≤ length a = omega (arith, h.least, h.within) in
      let q : avp_head a ≤ length (a ++ y) = rw length-append (omega arith) in
      rw (same_head a y (sound_big a right), le-leb _ _ p, le-leb _ _ q) (take-append-le (avp_head a) a y p)

  pub failed_front : (n : ℕ) → failed_of n (a ++ y) ≡ failed_of n a
  unfolding failed_of
  failed_front n =
      let w : take (avp_len a) (a ++ y) ≡ take (avp_len a) a = rw exact (take_at a y (length a) refl ∙ sym (take_all (length a) a (omega arith))) in
      rw (head_front, same_len a y (sound_big a right), w)

-- an AVP with its padding, in front of anything; it is held whole, but for B5014
pub failed_piece : (q : Piece) (y : List ℕ) (n : ℕ) → Whole q → failed_of n (q.avp ++ q.pad ++ y) ≡ failed_of n q.avp
failed_piece q y n h = rw (append_assoc q.avp q.pad y) (failed_front q.avp (q.pad ++ y) h.right h.exact n)

pub failed_whole : (q : Piece) (n : ℕ) → Whole q → eqb n 5014 ≡ false → failed_of n q.avp ≡ q.avp
unfolding failed_of
failed_whole q n h e = rw (e, h.exact) (take_all (length q.avp) q.avp (omega arith))

-- a whole AVP at a place
pub failed_at : (s : List ℕ) (place n : ℕ) → sound (drop place s) ≡ true → (n ≡ 5014 → ⊥) → failed_of n (drop place s) ≡ avp_at s place
unfolding failed_of avp_of
failed_at s place n e h = rw (ne_eqb _ _ h, e)
