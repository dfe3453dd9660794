-- AVPs put into a message (demand 3): a row of them with their padding, and a walk with them in front.
use Rattle.std.specs.Prelude.{ℕ, List, [], ◌∷◌, ◌++◌, true, ◌≡◌, length}
use Rattle.diameter.specs.Avp.{padded, avp_len, sound}
use Rattle.diameter.specs.Walk.{Walk, avp}

-- the AVPs of a list in front of a walk
unfoldable pub glue : List (List ℕ) → Walk → Walk
glue [] w = w
glue (a ∷ avs) w = avp a (glue avs w)

-- an AVP and its padding; the bytes of a row of them; the AVPs alone
pub record Piece : Type 0 where
  pub avp : List ℕ
  pub pad : List ℕ

unfoldable pub bytes_of : List Piece → List ℕ
bytes_of [] = []
bytes_of (q ∷ qs) = q.avp ++ q.pad ++ bytes_of qs

unfoldable pub avps_of : List Piece → List (List ℕ)
avps_of [] = []
avps_of (q ∷ qs) = q.avp ∷ avps_of qs

-- sound, its length exact, and padded to a multiple of 4; the padding's bytes are free
pub record Whole (q : Piece) : Type 0 where
  pub right : sound q.avp ≡ true
  pub exact : avp_len q.avp ≡ length q.avp
  pub filled : length (q.avp ++ q.pad) ≡ padded (length q.avp)

abbrev pub All : {X : Type 0} → (X → Type 0) → List X → Type 0
All P [] = Unit
All P (x ∷ xs) = P x × All P xs
