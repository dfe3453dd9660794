-- The AVP that stands at a place of a message.
use Rattle.std.specs.Prelude.{ℕ, List, [], Bool, true, false, cond, take, drop}
use Rattle.std.proofs.Math.Option.{Option, none, some}
use Rattle.diameter.specs.Avp.{avp_len, data_of, sound}

-- the AVP at the front, if a whole one is there; the AVP at a place of a message, none at its end
unfoldable pub avp_of : List ℕ → Option (List ℕ)
avp_of t = cond (sound t) (some (take (avp_len t) t)) none

abbrev pub part_at : List ℕ → ℕ → Option (List ℕ)
part_at s p = avp_of (drop p s)

abbrev pub present : Option (List ℕ) → Bool
present none = false
present (some a) = true

-- the bytes of the AVP at a place, and its data: none where no whole AVP stands
abbrev pub or_none : Option (List ℕ) → List ℕ
or_none none = []
or_none (some a) = a

abbrev pub avp_at : List ℕ → ℕ → List ℕ
avp_at s p = or_none (part_at s p)

abbrev pub data_at : List ℕ → ℕ → List ℕ
data_at s p = data_of (avp_at s p)
