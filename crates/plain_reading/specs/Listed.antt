-- 02 [13]: "first lists every AVP's place". The one whose length is faulty is the last in the list.
use Rattle.std.specs.Prelude.{ℕ, ◌+◌, List, [], ◌∷◌, length}
use Rattle.diameter.specs.Avp.{padded}
use Rattle.diameter.specs.Message.{body_of}
use Rattle.diameter.specs.Walk.{Walk, ended, faulty, avp}

-- the places of a walk's AVPs, the first of which begins at a place
unfoldable pub places_in : ℕ → Walk → List ℕ
places_in at ended = []
places_in at (faulty t) = at ∷ []
places_in at (avp a w) = at ∷ places_in (at + padded (length a)) w

-- the AVPs begin behind the header's 20 bytes
unfoldable pub places_of : List ℕ → List ℕ
places_of req = places_in 20 (body_of req)

-- "Its list holds at most 2,046 places."
abbrev pub most : ℕ
most = 2046
