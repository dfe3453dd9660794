-- What a User-Data-Request sees of a table: the names of its answerer, and of the record that it asks about the state, pending and the server name.
use Rattle.std.specs.Prelude.{ℕ, ◌≡◌, List, Option, Some, None}
use Rattle.record.specs.Fields.{host_of, realm_of, state_of, bits_of, server_of, pending}
use Rattle.blocks.specs.Blocks.{block_of}
use Rattle.lookup.specs.Find.{find_public}
use Rattle.reading.specs.Rules.{Seen}
use Rattle.requests.specs.Judged.{fine}
use Rattle.requests.specs.Request.{dialect_of, under_sh, read_sh, identity_of}

-- two records say the same of it
pub record SameShown (b c : List ℕ) : Type 0 where
  pub state : state_of b ≡ state_of c
  pub pends : pending (bits_of b) ≡ pending (bits_of c)
  pub server : server_of b ≡ server_of c

-- two look-ups find nothing, or such records
abbrev pub SameFound : List ℕ → List ℕ → Option ℕ → Option ℕ → Type 0
SameFound t u (Some j) (Some k) = SameShown (block_of t j) (block_of u k)
SameFound t u (Some j) None = ⊥
SameFound t u None (Some k) = ⊥
SameFound t u None None = Unit

-- two tables, of so many records, show the same to a request by a peer: the same answerer, and the same of the identity that it asks about
pub record SameSight (req : List ℕ) (peer : ℕ) (t u : List ℕ) (count many : ℕ) : Type 0 where
  pub host : host_of (block_of t 0) ≡ host_of (block_of u 0)
  pub realm : realm_of (block_of t 0) ≡ realm_of (block_of u 0)
  pub found : (seen : Seen) → read_sh (dialect_of (under_sh peer) req) req ≡ fine seen
      → SameFound t u (find_public t count (identity_of seen)) (find_public u many (identity_of seen))
