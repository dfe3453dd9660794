-- What is chosen can be sent.
use Rattle.octets.specs.Standard.{ℕ, zero, suc, ◌-◌, ◌/◌, ◌<◌, ◌≤◌, Bool, true, false, ◌||◌, ◌≡◌, refl, ◌∙◌, List, [], ◌∷◌, arith, length, get_or}
use Rattle.octets.specs.Standard.{replicate, length-append, length-replicate, get_or-append, eqb, eq-eqb}
use Rattle.vectors.specs.VectorFile.{SoundVectors}
use Rattle.vectors.specs.Chosen.{unused_at, unused_of, none_sent, packed}
use Rattle.vectors.specs.Sendable.{Sendable}
use Rattle.blocks.specs.Changed.{is_one}
use Rattle.vectors.proofs.Sound.{block_fits, sound_xres}
use Rattle.vectors.proofs.Unused.{ones_many, ones_hold}

pub none_sendable : (v : List ℕ) → Sendable v none_sent
none_sendable v = record { few = omega arith; room = refl; within = λ i h. absurd (omega arith); short = λ i h. absurd (omega arith) }

listed : (ks : List ℕ) (i : ℕ) → i < length ks → is_one ks (get_or ks i 0) ≡ true
unfolding is_one
listed [] i h = absurd (omega arith)
listed (k ∷ ks) zero h = rw (eq-eqb k k refl)
listed (k ∷ ks) (suc i) h = go (eqb (get_or ks i 0) k) (listed ks i (omega arith))
  where
    go : (x : Bool) → is_one ks (get_or ks i 0) ≡ true → (x || is_one ks (get_or ks i 0)) ≡ true
    go true e = refl
    go false e = e

module _ (v name : List ℕ) (most : ℕ) (sound : SoundVectors v) (sixteen : most ≤ 16) where
  abbrev ones : List ℕ
  ones = unused_of v name most

  few : length ones ≤ most
  unfolding unused_of
  few = omega (arith, ones_many (unused_at v name) (length v / 512) 0 most)

  one_within : (i : ℕ) → i < length ones → get_or (packed ones).blocks i 0 < length v / 512
  unfolding packed unused_of
  one_within i h =
      rw (get_or-append ones (replicate (16 - length ones) 0) 0 i h)
      (omega (arith, (ones_hold (unused_at v name) (length v / 512) 0 most (get_or ones i 0) (listed ones i h)).1))

  pub unused_sendable : Sendable v (packed ones)
  unfolding packed
  unused_sendable =
      record {
        few = omega (arith, few);
        room = length-append ones (replicate (16 - length ones) 0) ∙ rw length-replicate (omega (arith, few));
        within = λ i h. block_fits v _ (one_within i h);
        short = λ i h. sound_xres v sound _ (one_within i h);
      }
