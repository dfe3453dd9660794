-- A message's body cut into its AVPs.
use Rattle.std.specs.Prelude.{ℕ, zero, suc, pred, List, [], ◌∷◌, Bool, true, false, ◌||◌, take}
use Rattle.diameter.specs.Avp.{padded, avp_len, sound}

-- The AVPs in order, each its own bytes without padding; then the end, or what is left from an AVP on whose length is faulty.
pub data Walk : Type 0 where
  ended : Walk
  faulty : List ℕ → Walk
  avp : List ℕ → Walk → Walk

abbrev pub on_sound : Bool → List ℕ → Walk → Walk
on_sound true t w = avp (take (avp_len t) t) w
on_sound false t w = faulty t

-- the body after so many bytes that are still to be passed over
unfoldable pub walk_from : ℕ → List ℕ → Walk
walk_from k [] = ended
walk_from (suc k) (x ∷ t) = walk_from k t
walk_from zero (x ∷ t) = on_sound (sound (x ∷ t)) (x ∷ t) (walk_from (pred (padded (avp_len (x ∷ t)))) t)

unfoldable pub walk : List ℕ → Walk
walk t = walk_from zero t

-- some AVP of a walk passes a test: none behind a length fault is asked
unfoldable pub some_avp : (List ℕ → Bool) → Walk → Bool
some_avp p ended = false
some_avp p (faulty t) = false
some_avp p (avp a w) = p a || some_avp p w

-- the walk without its first AVP
abbrev pub behind_first : Walk → Walk
behind_first ended = ended
behind_first (faulty t) = faulty t
behind_first (avp a w) = w
