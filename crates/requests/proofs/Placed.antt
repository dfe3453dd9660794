-- A kind's AVP is what stands at the kind's place.
use Rattle.std.specs.Prelude.{Result, Ok, Err}
use Rattle.octets.specs.Standard.{ℕ, ◌<◌, ◌≡◌, refl, sym, ◌∙◌, List, Option, none, some, Bool, length, get_or, drop, drop-nil}
use Rattle.diameter.specs.Avp.{head_of, data_of, value_of}
use Rattle.diameter.specs.Reader.{read_of, own_of}
use Rattle.diameter.specs.AvpAt.{part_at, present, or_none, data_at}
use Rattle.diameter.specs.declared.Avp.{Avp}
use Rattle.diameter.proofs.Reading.{read_says, read_none}
use Rattle.requests.specs.Request.{given, data_if, value_if, data_seen, value_seen}
use Rattle.reading.specs.Places.{seen_of}
use Rattle.reading.proofs.Judging.{seen_at}

data_if_lem : (o : Option (List ℕ)) → data_if o ≡ data_of (or_none o)
data_if_lem none = sym (drop-nil (head_of 0))
data_if_lem (some a) = refl

module _ (s places : List ℕ) (k : ℕ) (room : k < length places) where
  pub data_in : data_seen (seen_of s places) k ≡ data_at s (get_or places k 0)
  data_in = rw (seen_at s places k room) (data_if_lem (part_at s (get_or places k 0)))

  pub value_in_lem : value_seen (seen_of s places) k ≡ value_if (part_at s (get_or places k 0))
  value_in_lem = rw (seen_at s places k room)

  pub given_in : given (seen_of s places) k ≡ present (part_at s (get_or places k 0))
  given_in = rw (seen_at s places k room)

  pub data_placed : (d : List ℕ) → d ≡ data_at s (get_or places k 0) → d ≡ data_seen (seen_of s places) k
  data_placed d e = e ∙ sym data_in

  pub value_placed : (v : ℕ) → v ≡ value_if (part_at s (get_or places k 0)) → v ≡ value_seen (seen_of s places) k
  value_placed v e = e ∙ sym value_in_lem

  pub given_placed : (b : Bool) → b ≡ present (part_at s (get_or places k 0)) → b ≡ given (seen_of s places) k
  given_placed b e = e ∙ sym given_in

-- the number at a place
module _ (s : List ℕ) (at : ℕ) (r : Result Avp ℕ) (e : r ≡ read_of at (drop at s)) where
  pub place_empty : {p : ℕ} → r ≡ Err p → 0 ≡ value_if (part_at s at)
  place_empty d = rw (read_none s at r e d)

  pub place_value : (a : Avp) (v : ℕ) → r ≡ Ok a → v ≡ value_of (own_of s a) → v ≡ value_if (part_at s at)
  place_value a v d ev = rw (read_says s at r e a d).part ev
