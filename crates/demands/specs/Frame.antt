-- What one call may alter.
use Rattle.std.specs.Prelude.{ℕ, ◌/◌, List, [], ◌∷◌, Bool, cond, eqb, Option, Some, None}
use Rattle.std.proofs.Math.Option.{Option as Maybe, none, some}
use Rattle.table.specs.Named.{private_at}
use Rattle.lookup.specs.Find.{find_public}
use Rattle.diameter.specs.Avp.{data_of}
use Rattle.reading.specs.Kinds.{user_name}
use Rattle.requests.specs.Judged.{Judged, bad, fine}
use Rattle.diameter.specs.Message.{body_of}
use Rattle.requests.specs.Request.{read_in, given, data_seen, identities}
use Rattle.reading.specs.Verdicts.{number_of}
use Rattle.reading.specs.declared.Dialect.{Dialect}
use Rattle.reading.specs.declared.Outcome.{Outcome}

-- a result 2xxx, B or X
abbrev pub succeeds : Outcome → Bool
succeeds r = eqb (number_of r / 1000) 2

-- the private identity in the record of the first Public-Identity, if there is one and it is known
abbrev pub owner_at : List ℕ → Option ℕ → Maybe (List ℕ)
owner_at t (Some k) = some (private_at t k)
owner_at t None = none

unfoldable pub first_owner : List ℕ → ℕ → List (List ℕ) → Maybe (List ℕ)
first_owner t count [] = none
first_owner t count (a ∷ avps) = owner_at t (find_public t count (data_of a))

-- the subscription that a request asks about, by its private identity: the User-Name if given, as a MAR's always is, else that of the first
-- Public-Identity
unfoldable pub asked_in : List ℕ → List ℕ → ℕ → Judged → Maybe (List ℕ)
asked_in req t count (bad v) = none
asked_in req t count (fine seen) = cond (given seen user_name) (some (data_seen seen user_name)) (first_owner t count (identities (body_of req)))

unfoldable pub subscription_of : Dialect → List ℕ → List ℕ → ℕ → Maybe (List ℕ)
subscription_of d req t count = asked_in req t count (read_in d req)
