-- The places of the Public-Identities, and the next one from a place on.
use Rattle.std.specs.Prelude.{ℕ, ◌+◌, List, [], ◌∷◌, cond, length, eqb}
use Rattle.diameter.specs.Avp.{padded}
use Rattle.diameter.specs.Walk.{Walk, ended, faulty, avp}
use Rattle.reading.specs.Kinds.{kind_of, public_identity}

-- the places in order, where the walk begins at a place
unfoldable pub places_from : ℕ → Walk → List ℕ
places_from at ended = []
places_from at (faulty t) = []
places_from at (avp a w) =
    cond (eqb (kind_of a) public_identity) (at ∷ places_from (at + padded (length a)) w)
    (places_from (at + padded (length a)) w)
