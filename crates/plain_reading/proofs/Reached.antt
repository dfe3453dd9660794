-- 2,046 places are reached: 2,045 AVPs of 8 bytes, and 4 bytes are left, where an AVP begins that is cut off.
use Rattle.octets.specs.Standard.{ℕ, zero, suc, ◌+◌, ◌*◌, ◌≡◌, refl, ap, List, [], ◌∷◌, true, arith, length}
use Rattle.octets.specs.Number.{be24_at}
use Rattle.diameter.specs.Avp.{padded, head_of, sound}
use Rattle.diameter.specs.Walk.{walk, walk_from}
use Rattle.diameter.proofs.Walks.{sound_of, walk_sound, head_least}
use Rattle.plain_reading.specs.Listed.{places_in, places_of, most}

-- so many AVPs without data, and four bytes

unfoldable pub body : ℕ → List ℕ
body zero = 0 ∷ 0 ∷ 0 ∷ 0 ∷ []
body (suc n) = 0 ∷ 0 ∷ 0 ∷ 0 ∷ 0 ∷ 0 ∷ 0 ∷ 8 ∷ body n

-- a UAR that says 16,384 bytes
unfoldable pub message : ℕ → List ℕ
message n = 1 ∷ 0 ∷ 64 ∷ 0 ∷ 192 ∷ 0 ∷ 1 ∷ 44 ∷ 1 ∷ 0 ∷ 0 ∷ 0 ∷ 0 ∷ 0 ∷ 0 ∷ 1 ∷ 0 ∷ 0 ∷ 0 ∷ 2 ∷ body n

body_length : (n : ℕ) → length (body n) ≡ 8 * n + 4
unfolding body
body_length zero = refl
body_length (suc n) = rw (body_length n) (omega arith)

body_sound : (n : ℕ) → sound (body (suc n)) ≡ true
unfolding body head_of be24_at
body_sound n = sound_of (body (suc n)) (record { eight = head_least 0; least = omega arith; within = omega arith })

body_places : (n at : ℕ) → length (places_in at (walk (body n))) ≡ suc n
unfolding places_in body walk walk_from sound head_of be24_at padded
body_places zero at = refl
body_places (suc n) at = rw (walk_sound (body (suc n)) (body_sound n)) (ap suc (body_places n (at + 8)))

pub places_reached : (length (message 2045) ≡ 16384) × (length (places_of (message 2045)) ≡ most)
unfolding message places_of
places_reached = (rw (body_length 2045), body_places 2045 20)
