-- AVPs of unknown kinds put into a request.
use Rattle.std.specs.Prelude.{ℕ, ◌+◌, ◌%◌, ◌≤◌, List, [], ◌∷◌, ◌++◌, Bool, true, false, cond, not, ◌||◌, ◌≡◌, length, eqb, ltb}
use Rattle.std.proofs.Math.Option.{Option, none, some}
use Rattle.octets.specs.Number.{put_be24}
use Rattle.diameter.specs.Avp.{padded, avp_flags, reserved, marked, sound}
use Rattle.diameter.specs.Walk.{ended}
use Rattle.diameter.specs.Put.{Piece, Whole, All, bytes_of, avps_of, glue}
use Rattle.reading.specs.declared.Dialect.{Dialect}
use Rattle.reading.specs.declared.Terms.{Terms}
use Rattle.reading.specs.declared.Use.TheVariants.{Unknown}
use Rattle.reading.specs.Kinds.{use_of}
use Rattle.requests.specs.Judged.{Judged, bad, fine, nothing, judge}
use Rattle.requests.specs.Request.{dialect_of, header_fault, first_other}
use Rattle.calling.specs.Lent.{Lent, asking, table_only}
use Rattle.calling.specs.Serve.{Served, serve}
use Rattle.calling.specs.Call.{Call}
use Rattle.calling.specs.Call.{Answered, Refused}
use Rattle.demands.specs.Call.{turned_away}
use Rattle.demands.specs.Place.{blaming}

-- a request of a header of 20 bytes and a body, its length field put right
unfoldable pub message : List ℕ → List ℕ → List ℕ
message head body = put_be24 head 1 (20 + length body) ++ body

-- a request of a header, a row of AVPs and what is behind them
abbrev pub request_of : List ℕ → List Piece → List ℕ → List ℕ
request_of head qs tail = message head (bytes_of qs ++ tail)

-- an AVP of a kind that the dialect does not know, with its padding: sound, filled up to a multiple of 4, no reserved flag
pub record Foreign (d : Dialect) (u : Piece) : Type 0 where
  pub whole : Whole u
  pub plain : reserved (avp_flags u.avp) ≡ 0
  pub stranger : use_of d u.avp ≡ Unknown

abbrev pub is_marked : Piece → Bool
is_marked u = marked (avp_flags u.avp)

-- such an AVP without M
pub record Quiet (d : Dialect) (u : Piece) : Type 0 where
  pub foreign : Foreign d u
  pub unmarked : is_marked u ≡ false

-- A row of AVPs with others put in, before, between and after its own, at any number of places: each of the longer row is kept or put in.
pub data Inserted (P : Piece → Type 0) : List Piece → List Piece → Type 0 where
  ending : Inserted P [] []
  keep : (q : Piece) {qs rs : List Piece} → Inserted P qs rs → Inserted P (q ∷ qs) (q ∷ rs)
  put : (u : Piece) {qs rs : List Piece} → P u → Inserted P qs rs → Inserted P qs (u ∷ rs)

-- How many bytes were put in before a place of the request; the next AVP of its row begins at `at`.
abbrev pub size_of : Piece → ℕ
size_of q = padded (length q.avp)

unfoldable pub put_before : {P : Piece → Type 0} {qs rs : List Piece} → Inserted P qs rs → ℕ → ℕ → ℕ
put_before ending at place = 0
put_before (keep q i) at place = cond (ltb place (at + size_of q)) 0 (put_before i (at + size_of q) place)
put_before (put u p i) at place = size_of u + put_before i at place

-- the place in the longer request of the AVP at a place of the request, the first AVP of the row being at 20; 0 is no AVP's and stays
abbrev pub later : (ℕ → ℕ) → ℕ → ℕ
later more place = cond (eqb place 0) 0 (place + more place)

abbrev pub place_now : {P : Piece → Type 0} {qs rs : List Piece} → Inserted P qs rs → ℕ → ℕ
place_now i = later (put_before i 20)

-- "In demand 3 this place is outside "same to the byte"": the same but for the place of the AVP at fault, which is another
abbrev pub call_placed : (ℕ → ℕ) → Call → Call
call_placed f (Answered a) = Answered (record { length = a.length; place = f a.place })
call_placed f (Refused number besides) = Refused number besides

abbrev pub placed : (ℕ → ℕ) → Served → Served
placed f s = record { call = call_placed f s.call; table = s.table; vectors = s.vectors; buffer = s.buffer }

-- Some of those put in are marked M: the first of them, the row before it and the row behind it.
pub record FirstMarked (d : Dialect) (qs rs : List Piece) : Type 0 where
  pub mark : Piece
  pub front : List Piece
  pub back : List Piece
  pub before : List Piece
  pub after : List Piece
  pub row : qs ≡ front ++ back
  pub longer : rs ≡ before ++ (mark ∷ after)
  pub quiet : Inserted (Quiet d) front before
  pub foreign : Foreign d mark
  pub marking : is_marked mark ≡ true
  pub rest : Inserted (Foreign d) back after

-- the header, or one of the AVPs in front, breaks a reading rule: (b) of the first, (a) and (c) to (h) of each; by the header's fault
abbrev pub is_fault : Judged → Bool
is_fault (bad v) = true
is_fault (fine seen) = false

abbrev pub fault_by : ℕ → Dialect → List Piece → Bool
fault_by n d qs = not (eqb n 0) || first_other (glue (avps_of qs) ended) || is_fault (judge d 20 (glue (avps_of qs) ended) nothing)

unfoldable pub fault_in : Dialect → List ℕ → List Piece → Bool
fault_in d head qs = fault_by (header_fault d head) d qs

-- the place behind the header and a row of AVPs
abbrev pub behind_row : List Piece → ℕ
behind_row qs = 20 + length (bytes_of qs)

-- (d) "kind (vendor, code) unknown: with M B5001": the answer with the AVP in Failed-AVP, and its place
abbrev pub unsupported : Lent → Piece → ℕ → Served
unsupported x m place = blaming x 5001 m.avp place

-- A request cut into its header, its AVPs that pass (a), and what is behind them: nothing, or bytes at whose front no AVP passes (a).
pub record Cut (req : List ℕ) : Type 0 where
  pub head : List ℕ
  pub first : Piece
  pub rest : List Piece
  pub tail : List ℕ
  pub twenty : length head ≡ 20
  pub whole : All Whole (first ∷ rest)
  pub fours : length tail % 4 ≡ 0
  pub stops : sound tail ≡ false
  pub joined : req ≡ request_of head (first ∷ rest) tail

-- `longer` is `req` with AVPs of unknown kinds put in after its first AVP, at any places before its first length fault; its length field is right, and it
-- stays within the limit. Which kinds are unknown is by the terms of the call.
pub record Longer (terms : Terms) (req longer : List ℕ) : Type 0 where
  pub cut : Cut req
  pub row : List Piece
  pub inserted : Inserted (Foreign (dialect_of terms cut.head)) cut.rest row
  pub bytes : longer ≡ request_of cut.head (cut.first ∷ row) cut.tail
  pub most : length longer ≤ 16384

-- the first of those put in that is marked M, if one is: the request's own AVPs before it, and all before it in the longer request
pub record Mark : Type 0 where
  pub front : List Piece
  pub before : List Piece
  pub mark : Piece

abbrev pub behind : Piece → Option Mark → Option Mark
behind q none = none
behind q (some m) = some (record { front = q ∷ m.front; before = q ∷ m.before; mark = m.mark })

abbrev pub beyond : Piece → Option Mark → Option Mark
beyond u none = none
beyond u (some m) = some (record { front = m.front; before = u ∷ m.before; mark = m.mark })

unfoldable pub first_mark : {d : Dialect} {qs rs : List Piece} → Inserted (Foreign d) qs rs → Option Mark
first_mark ending = none
first_mark (keep q i) = behind q (first_mark i)
first_mark (put u f i) = cond (is_marked u) (some (record { front = []; before = []; mark = u })) (beyond u (first_mark i))

-- what a call with them comes to: the same, the place of the AVP at fault moved with its AVP; but B5001 for the first marked one, unless the call is refused
-- or the header or an AVP before that one breaks a reading rule
unfoldable pub newer : (x : Lent) → List ℕ → List ℕ → Piece → (ℕ → ℕ) → Option Mark → Served
newer x longer head q now none = placed now (serve x)
newer x longer head q now (some m) =
    cond (turned_away (table_only x) || fault_in (dialect_of x.terms head) head (q ∷ m.front)) (placed now (serve x))
    (unsupported (asking x longer) m.mark (behind_row (q ∷ m.before)))

-- and if one is marked, the whole area is as it was, and no vector is used
pub record Newer (x : Lent) (longer : List ℕ) (l : Longer x.terms x.request longer) : Type 0 where
  pub comes : serve (asking x longer)
      ≡ newer x longer l.cut.head l.cut.first (place_now (keep l.cut.first l.inserted)) (first_mark l.inserted)
  pub table : (m : Mark) → first_mark l.inserted ≡ some m → (serve (asking x longer)).table ≡ x.table
  pub vectors : (m : Mark) → first_mark l.inserted ≡ some m → (serve (asking x longer)).vectors ≡ x.vectors
