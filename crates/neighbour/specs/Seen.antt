-- 02 [9]: what two calls must have in common for "the same answer bytes".
use Rattle.std.specs.Prelude.{ℕ, zero, suc, ◌<◌, List, [], ◌∷◌, ◌++◌, map, Bool, false, cond, ◌||◌, ◌≡◌, get_or, take}
use Rattle.octets.specs.Name.{same}
use Rattle.record.specs.Fields.{public_of, private_of, profile_of}
use Rattle.blocks.specs.Blocks.{block_of}
use Rattle.table.specs.Area.{table_in}
use Rattle.diameter.specs.Avp.{data_of}
use Rattle.diameter.specs.Message.{body_of}
use Rattle.diameter.specs.Put.{All}
use Rattle.reading.specs.Kinds.{user_name}
use Rattle.requests.specs.Judged.{Judged, bad, fine}
use Rattle.requests.specs.Request.{read_in, given, data_seen, identities}
use Rattle.choices.specs.Types.{between}
use Rattle.calling.specs.Call.{Answer}
use Rattle.calling.specs.Lent.{Lent, dialect_in}
use Rattle.calling.specs.Serve.{Served}
use Rattle.seen_alike.specs.Shown.{Each}

-- "equal headers apart from count, issue and check word": bytes 8-11, 408-411, 508-511
abbrev pub header_apart : ℕ → Bool
header_apart i = between 8 i 11 || between 408 i 411 || between 508 i 511

-- "the same records, apart from block number, issue, check word and profile start": bytes 4-7, 408-411, 508-511, 400-403
abbrev pub record_apart : ℕ → Bool
record_apart i = between 4 i 7 || between 408 i 411 || between 508 i 511 || between 400 i 403

-- every other byte of two blocks is the same
pub record SameApart (apart : ℕ → Bool) (b c : List ℕ) : Type 0 where
  pub bytes : (i : ℕ) → i < 512 → apart i ≡ false → get_or b i 0 ≡ get_or c i 0

-- .. "and let those records show the same profile bytes", each in the profile file beside it
pub record SameLine (file other b c : List ℕ) : Type 0 where
  pub block : SameApart record_apart b c
  pub profile : profile_of b file ≡ profile_of c other

-- the records of a table, up to the n-th, in table order; those of them that have a name in a field
unfoldable pub records : List ℕ → ℕ → List (List ℕ)
records t zero = []
records t (suc n) = records t n ++ (block_of t (suc n) ∷ [])

unfoldable pub having : (List ℕ → List ℕ) → List ℕ → List (List ℕ) → List (List ℕ)
having field name [] = []
having field name (b ∷ bs) = cond (same (field b) name) (b ∷ having field name bs) (having field name bs)

-- the records of the table that is lent
abbrev pub records_of : Lent → ℕ → List (List ℕ)
records_of x count = records (table_in x.table) count

-- "every public identity in the request"; the private identity "that the request names" is its User-Name, where the command has one. A request with a fault
-- names none: nothing is looked up for it.
abbrev pub publics_in : List ℕ → Judged → List (List ℕ)
publics_in req (bad v) = []
publics_in req (fine seen) = map data_of (identities (body_of req))

abbrev pub users_in : Judged → List (List ℕ)
users_in (bad v) = []
users_in (fine seen) = cond (given seen user_name) (data_seen seen user_name ∷ []) []

abbrev pub publics_of : Lent → List (List ℕ)
publics_of x = publics_in x.request (read_in (dialect_in x) x.request)

abbrev pub users_of : Lent → List (List ℕ)
users_of x = users_in (read_in (dialect_in x) x.request)

-- two lent tables, of so many records, hold the same records with a name in a field, in table order
abbrev pub SameHaving : Lent → Lent → ℕ → ℕ → (List ℕ → List ℕ) → List ℕ → Type 0
SameHaving x y count many field name =
    Each (SameLine x.profile y.profile) (having field name (records_of x count)) (having field name (records_of y many))

-- the same request on the same terms, over tables with equal headers, which hold the same records "for every public identity in the request, and for each
-- private identity that the request names or that such a record has"
pub record SameSeen (x y : Lent) (count many : ℕ) : Type 0 where
  pub request : x.request ≡ y.request
  pub terms : x.terms ≡ y.terms
  pub header : SameApart header_apart (block_of (table_in x.table) 0) (block_of (table_in y.table) 0)
  pub publics : All (SameHaving x y count many public_of) (publics_of x)
  pub users : All (SameHaving x y count many private_of) (users_of x)
  pub owners :
      All (λ (name : List ℕ). All (λ (b : List ℕ). SameHaving x y count many private_of (private_of b)) (having public_of name (records_of x count))) (publics_of x)

-- the bytes of an answer: as many of the buffer as the call says
abbrev pub bytes_of : Served → Answer → List ℕ
bytes_of s a = take a.length s.buffer

-- the same answer: its bytes, and with them its length and the place of the AVP at fault
pub record SameAnswer (r s : Served) (a b : Answer) : Type 0 where
  pub told : a ≡ b
  pub bytes : bytes_of r a ≡ bytes_of s b
