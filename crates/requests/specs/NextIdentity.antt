-- The next Public-Identity from a place on.
use Rattle.std.specs.Prelude.{ℕ, ◌≤◌, ◌<◌, ◌≡◌, List, [], ◌∷◌, true, length, drop, Option, Some, None}
use Rattle.diameter.specs.Avp.{sound}
use Rattle.diameter.specs.Walk.{walk}
use Rattle.requests.specs.declared.identities.Identity.{Identity}
use Rattle.requests.specs.Identity.{places_from}

-- the places that an answer stands for: its own and those after it
unfoldable pub places_by : List ℕ → Option Identity → List ℕ
places_by s (Some i) = i.place ∷ places_from i.past (walk (drop i.past s))
places_by s None = []

-- a whole AVP stands at its place, not before the place that was asked, and the place after it is later
pub record Stands (s : List ℕ) (from place past : ℕ) : Type 0 where
  pub sounds : sound (drop place s) ≡ true
  pub reached : from ≤ place
  pub inside : place < length s
  pub later : place < past

abbrev pub StandsBy : List ℕ → ℕ → Option Identity → Type 0
StandsBy s from (Some i) = Stands s from i.place i.past
StandsBy s from None = Unit

pub record Named (s : List ℕ) (from : ℕ) (r : Option Identity) : Type 0 where
  pub rest : places_from from (walk (drop from s)) ≡ places_by s r
  pub stands : StandsBy s from r
