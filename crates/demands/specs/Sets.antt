-- 02 [6] over records and calls: which records share a set, agree, are barred alone; and two requests of which one names an identity more.
use Rattle.std.specs.Prelude.{ℕ, ◌+◌, ◌*◌, ◌%◌, ◌<◌, ◌≤◌, true, ◌≡◌, List, ◌∷◌, ◌++◌, length}
use Rattle.record.specs.Fields.{set_of, private_of, state_of, bits_of, server_of, barred}
use Rattle.record.specs.HeaderBlock.{header_of, sound_header}
use Rattle.blocks.specs.Blocks.{block_of}
use Rattle.table.specs.Named.{public_at, private_at}
use Rattle.table.specs.Check.{sound_at}
use Rattle.diameter.specs.Avp.{data_of}
use Rattle.diameter.specs.Put.{Piece, Whole, All, bytes_of}
use Rattle.reading.specs.Kinds.{kind_of, user_name, public_identity, assignment_type}
use Rattle.reading.specs.Rules.{Seen}
use Rattle.requests.specs.Request.{data_seen, value_seen}
use Rattle.choices.specs.Types.{type_of, is_removal}
use Rattle.calling.specs.Lent.{Lent, dialect_in}
use Rattle.reading.specs.declared.Dialect.{Dialect}
use Rattle.demands.specs.Call.{Decides}
use Rattle.demands.specs.Insertion.{message}

-- "A set is the records of one subscription with the same nonzero number": record j shares the set of record k
pub record Shares (t : List ℕ) (k j : ℕ) : Type 0 where
  pub nonzero : 0 < set_of (block_of t k)
  pub number : set_of (block_of t k) ≡ set_of (block_of t j)
  pub subscription : private_of (block_of t k) ≡ private_of (block_of t j)

-- "all records of a set agree in state, pending and server name"; pending is bit 0
pub record Agrees (t : List ℕ) (j k : ℕ) : Type 0 where
  pub state : state_of (block_of t j) ≡ state_of (block_of t k)
  pub pending : bits_of (block_of t j) % 2 ≡ bits_of (block_of t k) % 2
  pub server : server_of (block_of t j) ≡ server_of (block_of t k)

-- block k is the first that is bad under a sound header and the right length, and it does not agree with an earlier block j of its set
pub record Disagrees (t : List ℕ) (file j k : ℕ) : Type 0 where
  pub header : sound_header (block_of t 0) ≡ true
  pub size : length t ≡ 512 * ((header_of (block_of t 0)).count + 1)
  pub from : 1 ≤ j
  pub later : j < k
  pub to : k ≤ (header_of (block_of t 0)).count
  pub before : (i : ℕ) → 1 ≤ i → i < k → sound_at t (header_of (block_of t 0)) file i ≡ true
  pub shares : Shares t j k
  pub apart : Agrees t j k → ⊥

-- "barred and no non-barred one shares its nonzero set"
pub record BarredAlone (t : List ℕ) (count k : ℕ) : Type 0 where
  pub own : barred (bits_of (block_of t k)) ≡ true
  pub others : (j : ℕ) → 1 ≤ j → j ≤ count → Shares t k j → barred (bits_of (block_of t j)) ≡ true

-- block k is the record of a public identity
pub record Stands (t : List ℕ) (count k : ℕ) (public : List ℕ) : Type 0 where
  pub from : 1 ≤ k
  pub to : k ≤ count
  pub name : public_at t k ≡ public

-- block k is a record of a private identity
pub record Belongs (t : List ℕ) (count k : ℕ) (private : List ℕ) : Type 0 where
  pub from : 1 ≤ k
  pub to : k ≤ count
  pub name : private_at t k ≡ private

-- a request that is decided upon, whose Public-Identity and User-Name stand together in a record that is barred alone
pub record Barred (x : Lent) (count : ℕ) : Type 0 where
  pub seen : Seen
  pub read : Decides (dialect_in x) x.request seen
  pub block : ℕ
  pub public : Stands x.table count block (data_seen seen public_identity)
  pub private : private_at x.table block ≡ data_seen seen user_name
  pub alone : BarredAlone x.table count block

-- a SAR that is decided upon, of one of the removal types
pub record Removes (d : Dialect) (req : List ℕ) : Type 0 where
  pub sar : d.command ≡ 301
  pub seen : Seen
  pub read : Decides d req seen
  pub removal : is_removal (type_of (value_seen seen assignment_type)) ≡ true

-- `fewer` is `req` without one of its Public-Identities, whose AVP may stand anywhere; the length field is right in both
pub record OneFewer (req fewer : List ℕ) : Type 0 where
  pub head : List ℕ
  pub before : List Piece
  pub one : Piece
  pub after : List Piece
  pub twenty : length head ≡ 20
  pub whole : All Whole (before ++ (one ∷ after))
  pub identity : kind_of one.avp ≡ public_identity
  pub bytes : req ≡ message head (bytes_of (before ++ (one ∷ after)))
  pub shorter : fewer ≡ message head (bytes_of (before ++ after))

-- the identity left out, `one`, is of the set of another one, which is among the rest of the AVPs, before it or after it: the record of each, and that they
-- share the set
pub record Member (t : List ℕ) (count : ℕ) (rest : List Piece) (one : Piece) : Type 0 where
  pub front : List Piece
  pub other : Piece
  pub back : List Piece
  pub rest_is : rest ≡ front ++ (other ∷ back)
  pub identity : kind_of other.avp ≡ public_identity
  pub other_block : ℕ
  pub one_block : ℕ
  pub other_stands : Stands t count other_block (data_of other.avp)
  pub one_stands : Stands t count one_block (data_of one.avp)
  pub shares : Shares t other_block one_block
