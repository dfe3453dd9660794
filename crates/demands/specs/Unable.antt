-- 02 [7], "The SAR's B5012 for type 0 stays, and the authentication request's.": the two requests that come to it, over a table of count records.
use Rattle.std.specs.Prelude.{ℕ, ◌/◌, ◌<◌, true, ◌≡◌, ◌≢◌, ◌⊎◌, List, [], ◌∷◌, length}
use Rattle.record.specs.Fields.{server_of}
use Rattle.blocks.specs.Blocks.{block_of}
use Rattle.table.specs.Named.{private_at}
use Rattle.vectors.specs.VectorBlock.{vector_of, card_of}
use Rattle.vectors.specs.Scheme.{scheme}
use Rattle.diameter.specs.Avp.{data_of}
use Rattle.diameter.specs.Message.{body_of}
use Rattle.reading.specs.Kinds.{user_name, public_identity, number_auth_items, server_name, assignment_type}
use Rattle.reading.specs.Rules.{Seen}
use Rattle.requests.specs.Request.{given, data_seen, value_seen, scheme_of, identities}
use Rattle.calling.specs.Lent.{Lent, dialect_in}
use Rattle.demands.specs.Call.{Decides}
use Rattle.demands.specs.Sets.{Stands}

-- "Type 0: stored name equal to the request's, B2001, else B5012": a SAR that is decided upon, of type 0, of one identity, which has a record; that
-- is the User-Name's, if one is given; and the name that it stores, if any, is not the request's
pub record StoresOther (x : Lent) (count : ℕ) : Type 0 where
  pub seen : Seen
  pub read : Decides (dialect_in x) x.request seen
  pub asks : value_seen seen assignment_type ≡ 0
  pub identity : List ℕ
  pub named : identities (body_of x.request) ≡ identity ∷ []
  pub block : ℕ
  pub public : Stands x.table count block (data_of identity)
  pub private : given seen user_name ≡ true → private_at x.table block ≡ data_seen seen user_name
  pub other : server_of (block_of x.table block) ≢ data_seen seen server_name

-- "none unused, or zero asked": no vector of a name is unused
abbrev pub AllUsed : List ℕ → List ℕ → Type 0
AllUsed v name = (k : ℕ) → k < length v / 512 → card_of (block_of v k) ≡ name → (vector_of (block_of v k)).used ≢ 0

-- "B5012, after X5006": a MAR that is decided upon, whose identities stand together in a record, of the scheme that is served
pub record NoneToSend (x : Lent) (count : ℕ) : Type 0 where
  pub seen : Seen
  pub read : Decides (dialect_in x) x.request seen
  pub block : ℕ
  pub public : Stands x.table count block (data_seen seen public_identity)
  pub private : private_at x.table block ≡ data_seen seen user_name
  pub served : scheme_of seen ≡ scheme
  pub none : (value_seen seen number_auth_items ≡ 0) ⊎ AllUsed x.vectors (data_seen seen user_name)
