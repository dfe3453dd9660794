-- What the instances are of: a table of two subscriptions, a file of two vectors, a SAR and a MAR as rows of AVPs, and what is put into them.
use Rattle.std.specs.Prelude.{Ok}
use Rattle.octets.specs.Standard.{ℕ, ◌+◌, ◌≡◌, ◌∙◌, List, [], ◌∷◌, ◌++◌, Bool, true, ◌&&◌, length, eqb, eqb-true}
use Rattle.octets.proofs.All.{and_left, and_right}
use Rattle.octets.specs.Run.{over}
use Rattle.table.specs.Area.{check_area}
use Rattle.table.proofs.Areas.{check_exact, sound_size_in}
use Rattle.diameter.specs.Avp.{padded, avp_len, sound}
use Rattle.diameter.specs.Put.{Piece, Whole, All, glue, bytes_of, avps_of}
use Rattle.pen.specs.Bytes.{word_bytes, head_bytes, padding, vendor_head, number_bytes}
use Rattle.requests.specs.Request.{under_cx}
use Rattle.calling.specs.Call.{Answered}
use Rattle.calling.specs.Lent.{Lent, lent, table_only}
use Rattle.refusals.specs.Trial.{any_holds}
use Rattle.calling.specs.Serve.{Served, check_of}
use Rattle.calling.proofs.Areas.{only_sound}
use Rattle.worked_examples.proofs.Sample.{header, person, vector, room, digest, s, opened}
use Rattle.demands.specs.Frame.{first_owner, asked_in, subscription_of}
use Rattle.demands.specs.Insertion.{message, request_of, Inserted, ending, keep, fault_in}

-- two subscriptions, each registered at the server `s`; two records of one public identity; the table after `a` was removed
unfoldable pub table : List ℕ
table = header 2 0 ++ (person 1 0x61 0x70 1 (0x73 ∷ []) ++ person 2 0x62 0x71 1 (0x73 ∷ []))

unfoldable pub twice : List ℕ
twice = header 2 0 ++ (person 1 0x61 0x70 1 s ++ person 2 0x61 0x71 1 s)

unfoldable pub removed : List ℕ
removed = header 2 0 ++ (person 1 0x61 0x70 0 [] ++ person 2 0x62 0x71 1 (0x73 ∷ []))

-- a vector of the second subscription and one of the first, none of them used; a file whose second block is cut off; one that has no whole block
unfoldable pub vectors : List ℕ
vectors = vector 0 0x71 5 ++ vector 0 0x70 1

unfoldable pub cut_off : List ℕ
cut_off = vector 0 0x71 5 ++ (3 ∷ [])

unfoldable pub short : List ℕ
short = 3 ∷ []

-- an AVP of vendor 0 and one of 10415, each with its padding
unfoldable pub base : ℕ → List ℕ → Piece
base code d = record { avp = head_bytes code 64 (8 + length d) ++ d; pad = padding (length d) }

unfoldable pub vendor : ℕ → List ℕ → Piece
vendor code d = record { avp = vendor_head code (12 + length d) ++ d; pad = padding (length d) }

-- a SAR of a type, and a MAR for so many vectors, both for the identity `a` at a server: a header by the command's last byte, Session-Id, the AVPs that every
-- request needs, and its own
unfoldable pub head_of : ℕ → List ℕ
head_of command =
    0x01 ∷ 0x00 ∷ 0x00 ∷ 0x00 ∷ 0xC0 ∷ 0x00 ∷ 0x01 ∷ command ∷ 0x01 ∷ 0x00 ∷ 0x00 ∷ 0x00 ∷ 0x00 ∷ 0x00 ∷ 0x00 ∷ 0x01
    ∷ 0x00 ∷ 0x00 ∷ 0x00 ∷ 0x02 ∷ []

unfoldable pub head : List ℕ
head = head_of 0x2D

unfoldable pub mar_head : List ℕ
mar_head = head_of 0x2F

unfoldable pub session : Piece
session = base 263 (0x73 ∷ [])

unfoldable pub application : Piece
application = base 260 (number_bytes 266 10415 ++ number_bytes 258 16777216)

unfoldable pub common : List Piece
common = base 277 (word_bytes 1) ∷ base 264 (0x63 ∷ []) ∷ base 296 (0x72 ∷ []) ∷ base 283 (0x72 ∷ []) ∷ []

unfoldable pub own : List ℕ → ℕ → List Piece
own server kind = vendor 601 (0x61 ∷ []) ∷ vendor 602 server ∷ vendor 614 (word_bytes kind) ∷ vendor 624 (word_bytes 1) ∷ []

unfoldable pub rest : List ℕ → ℕ → List Piece
rest server kind = application ∷ common ++ own server kind

unfoldable pub sar : List ℕ → ℕ → List ℕ
sar server kind = request_of head (session ∷ rest server kind) []

unfoldable pub mar_own : List ℕ → ℕ → List Piece
mar_own server number =
    base 1 (0x70 ∷ []) ∷ vendor 601 (0x61 ∷ []) ∷ vendor 612 digest ∷ vendor 607 (word_bytes number) ∷ vendor 602 server ∷ []

unfoldable pub mar_rest : List ℕ → ℕ → List Piece
mar_rest server number = application ∷ common ++ mar_own server number

unfoldable pub mar : List ℕ → ℕ → List ℕ
mar server number = request_of mar_head (session ∷ mar_rest server number) []

-- what is lent with a request: the table, no profile file, no vectors or those above, the buffer
abbrev pub asked : List ℕ → Lent
asked req = lent req table [] [] room (under_cx 3588 0)

abbrev pub carded : List ℕ → Lent
carded req = lent req table [] vectors room (under_cx 3588 0)

-- a call that is answered by these bytes, with the place of the AVP at fault (0: none is), and leaves a table and vectors; one that blames no AVP, over no
-- vectors; one that blames the AVP at a place, and leaves the table as it came
unfoldable pub comes_to : ℕ → List ℕ → List ℕ → List ℕ → Served
comes_to place after spent bytes =
    record { call = Answered (record { length = length bytes; place = place }); table = after; vectors = spent; buffer = over bytes room }

unfoldable pub comes : List ℕ → List ℕ → Served
comes after bytes = comes_to 0 after [] bytes

unfoldable pub blamed : ℕ → List ℕ → Served
blamed place bytes = comes_to place table [] bytes

-- "601 without V is unknown"; "V with vendor 0 is an unknown kind"; one with M. Their padding is no zeros
unfoldable pub plain : Piece
plain = record { avp = head_bytes 601 0 9 ++ (0x61 ∷ []); pad = 1 ∷ 2 ∷ 3 ∷ [] }

unfoldable pub zero_vendor : Piece
zero_vendor = record { avp = head_bytes 601 128 13 ++ (0 ∷ 0 ∷ 0 ∷ 0 ∷ 0x61 ∷ []); pad = 1 ∷ 2 ∷ 3 ∷ [] }

unfoldable pub loud : Piece
loud = record { avp = head_bytes 999 64 11 ++ (1 ∷ 2 ∷ 3 ∷ []); pad = 0xFF ∷ [] }

-- all that the instances open: the buffer stays shut, but where its length is what counts
unfoldable pub all : ℕ
unfolding opened table removed vectors base vendor head_of head mar_head session application common own rest sar mar_own mar_rest mar comes_to comes blamed
    plain zero_vendor loud
    message glue bytes_of avps_of first_owner asked_in subscription_of any_holds fault_in
all = 0

-- A sound table lent alone is an area that checks so, and what holds over it holds over the table at the front of it.
module _ (x : Lent) (count : ℕ) (sound : check_of x ≡ Ok count) where
  pub area_sound : check_area x.table (length x.profile) ≡ Ok count
  area_sound = check_exact x.table (length x.profile) (sound_size_in x.table (length x.profile) count sound) ∙ sound

  pub of_area : (P : Lent → Type 0) → P x → P (table_only x)
  of_area P p = rw (only_sound x count sound) p

-- A row is whole if a test says so of each
unfoldable pub is_whole : Piece → Bool
is_whole q = sound q.avp && (eqb (avp_len q.avp) (length q.avp) && eqb (length (q.avp ++ q.pad)) (padded (length q.avp)))

unfoldable pub all_whole : List Piece → Bool
all_whole [] = true
all_whole (q ∷ qs) = is_whole q && all_whole qs

is_whole_lem : (q : Piece) → is_whole q ≡ true → Whole q
unfolding is_whole
is_whole_lem q e =
    let r = and_right (sound q.avp) _ e in
    record {
      right = and_left (sound q.avp) _ e;
      exact = eqb-true _ _ (and_left (eqb (avp_len q.avp) (length q.avp)) _ r);
      filled = eqb-true _ _ (and_right (eqb (avp_len q.avp) (length q.avp)) _ r);
    }

pub all_whole_lem : (qs : List Piece) → all_whole qs ≡ true → All Whole qs
unfolding all_whole
all_whole_lem [] e = tt
all_whole_lem (q ∷ qs) e = (is_whole_lem q (and_left (is_whole q) _ e), all_whole_lem qs (and_right (is_whole q) _ e))

-- a row as it is
unfoldable pub kept : {P : Piece → Type 0} (qs : List Piece) → Inserted P qs qs
kept [] = ending
kept (q ∷ qs) = keep q (kept qs)
