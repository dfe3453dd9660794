-- 02 [11]: which Supported-Features of a request count, and what X5011 and the server's own list say.
use Rattle.std.specs.Prelude.{ℕ, ◌+◌, ◌<◌, Bool, true, false, ◌≡◌, List, [], ◌∷◌, ◌++◌, ◌⊎◌, ◌≢◌, length, drop}
use Rattle.octets.specs.Run.{over}
use Rattle.blocks.specs.Blocks.{block_of}
use Rattle.table.specs.Area.{table_in}
use Rattle.diameter.specs.Avp.{avp_flags, data_of, reserved, marked, sound}
use Rattle.diameter.specs.AvpAt.{avp_at}
use Rattle.diameter.specs.Message.{body_of}
use Rattle.diameter.specs.Walk.{Walk, avp, walk, behind_first}
use Rattle.pen.specs.Bytes.{word_bytes}
use Rattle.reading.specs.Features.{bit_of, member_value}
use Rattle.reading.specs.Groups.{feature_members, gathers}
use Rattle.reading.specs.Kinds.{kind_of, supported_features}
use Rattle.reading.specs.Rules.{Seen, rule}
use Rattle.reading.specs.declared.Dialect.{Dialect}
use Rattle.reading.specs.declared.Outcome.TheVariants.{Experimental}
use Rattle.reading.specs.declared.Ruled.TheVariants.{Taken}
use Rattle.reading.specs.declared.Terms.{Terms}
use Rattle.requests.specs.Judged.{fine}
use Rattle.requests.specs.Request.{header_fault, read_in, session_of}
use Rattle.envelope.specs.Front.{front_bytes, origin_bytes}
use Rattle.envelope.specs.Header.{header_bytes}
use Rattle.reply.specs.Pieces.{top_bytes}
use Rattle.envelope.specs.End.{proxies}
use Rattle.answering.specs.Answer.{rest_bytes}
use Rattle.calling.specs.Call.{Answered}
use Rattle.calling.specs.Lent.{Lent, table_only, dialect_in}
use Rattle.calling.specs.Serve.{Served, decided, serve}
use Rattle.demands.specs.Place.{ReadingReaches}

-- the same call with other features
abbrev pub with_features : Lent → ℕ → Lent
with_features a features =
    record {
      request = a.request;
      table = a.table;
      profile = a.profile;
      vectors = a.vectors;
      buffer = a.buffer;
      terms = record { application = a.terms.application; peer = a.terms.peer; features = features };
    }

-- an AVP is one of a walk: it stands before any length fault
pub data Among : Walk → List ℕ → Type 0 where
  here : (a : List ℕ) (w : Walk) → Among (avp a w) a
  later : (a b : List ℕ) (w : Walk) → Among w a → Among (avp b w) a

-- what a 628 asks for: the Vendor-Id, Feature-List-ID and Feature-List in it
abbrev pub vendor_in : List ℕ → ℕ
vendor_in a = member_value 266 0 (walk (data_of a))

abbrev pub list_in : List ℕ → ℕ
list_in a = member_value 629 10415 (walk (data_of a))

abbrev pub bits_in : List ℕ → ℕ
bits_in a = member_value 630 10415 (walk (data_of a))

-- "a bit outside the set"
pub record Outside (set wanted : ℕ) : Type 0 where
  pub bit : ℕ
  pub below : bit < 32
  pub asked : bit_of wanted bit ≡ true
  pub lacking : bit_of set bit ≡ false

-- "With M set, a request that asks for a bit outside the set, or for another list or vendor": a 628 that does
pub record Asks (set : ℕ) (a : List ℕ) : Type 0 where
  pub kind : kind_of a ≡ supported_features
  pub mark : marked (avp_flags a) ≡ true
  pub beyond : (vendor_in a ≢ 10415) ⊎ (list_in a ≢ 1) ⊎ Outside set (bits_in a)

-- "X5011 after the missing-AVP check": reading finds no fault, nothing is missing, and one of the AVPs asks for such
pub record Beyond (a : Lent) : Type 0 where
  pub seen : Seen
  pub read : read_in (dialect_in a) a.request ≡ fine seen
  pub one : List ℕ
  pub among : Among (body_of a.request) one
  pub asks : Asks a.terms.features one

-- its answer, byte by byte: no Failed-AVP, and nothing of the table's records; area and vectors are as they were, and no place is told
abbrev pub unsupported_body : Terms → List ℕ → List ℕ → List ℕ
unsupported_body terms req t = top_bytes terms req t (Experimental 5011) ++ proxies (body_of req)

abbrev pub unsupported_bytes : Terms → List ℕ → List ℕ → List ℕ
unsupported_bytes terms req t = header_bytes req (Experimental 5011) (20 + length (unsupported_body terms req t)) ++ unsupported_body terms req t

abbrev pub answers_unsupported : Lent → Served
answers_unsupported a =
    record {
      call = Answered (record { length = length (unsupported_bytes a.terms a.request (table_in a.table)); place = 0 });
      table = a.table;
      vectors = a.vectors;
      buffer = over (unsupported_bytes a.terms a.request (table_in a.table)) a.buffer;
    }

-- "a request with no header fault that had, before any length fault, a 628 passing (a) to (h)": it is not the first AVP, which (b) wants to be a Session-Id,
-- and whatever was taken before it, (c) to (h) take it
pub record Called (a : Lent) : Type 0 where
  pub header : header_fault (dialect_in a) a.request ≡ 0
  pub one : List ℕ
  pub among : Among (behind_first (body_of a.request)) one
  pub kind : kind_of one ≡ supported_features
  pub passes : (seen : Seen) → rule (dialect_in a) seen one ≡ Taken

-- the 56 bytes of "the server's own list": 628 of flags 0x80, with Vendor-Id 10415 of flags 0x40, 629 of 1 and 630 of the set with flags 0x80
abbrev pub own_list : ℕ → List ℕ
own_list set =
    (0 ∷ 0 ∷ 2 ∷ 116 ∷ 128 ∷ 0 ∷ 0 ∷ 56 ∷ 0 ∷ 0 ∷ 40 ∷ 175 ∷ [])
    ++ ((0 ∷ 0 ∷ 1 ∷ 10 ∷ 64 ∷ 0 ∷ 0 ∷ 12 ∷ 0 ∷ 0 ∷ 40 ∷ 175 ∷ [])
    ++ ((0 ∷ 0 ∷ 2 ∷ 117 ∷ 128 ∷ 0 ∷ 0 ∷ 16 ∷ 0 ∷ 0 ∷ 40 ∷ 175 ∷ 0 ∷ 0 ∷ 0 ∷ 1 ∷ [])
    ++ (0 ∷ 0 ∷ 2 ∷ 118 ∷ 128 ∷ 0 ∷ 0 ∷ 16 ∷ 0 ∷ 0 ∷ 40 ∷ 175 ∷ word_bytes set)))

-- the answer with some bytes "right after 296", which is the last AVP of `origin_bytes`: before User-Name and all else that a decision gives
abbrev pub body_with : Lent → List ℕ → List ℕ
body_with a list =
    (front_bytes a.terms (session_of (body_of a.request)) (decided (table_only a)).given.verdict.result
    ++ (origin_bytes (block_of (table_in a.table) 0) ++ list))
    ++ rest_bytes a.request (table_in a.table) a.profile a.vectors (decided (table_only a)).given

abbrev pub answer_with : Lent → List ℕ → List ℕ
answer_with a list =
    header_bytes a.request (decided (table_only a)).given.verdict.result (20 + length (body_with a list)) ++ body_with a list

-- a call answers with such bytes
pub record AnsweredWith (a : Lent) (bytes : List ℕ) : Type 0 where
  pub call : (serve a).call ≡ Answered (record { length = length bytes; place = (decided (table_only a)).place })
  pub buffer : (serve a).buffer ≡ over bytes a.buffer

-- Reading, in a dialect, comes to a 628 with no fault before it and with no reserved flag in it.
pub record ComesTo (d : Dialect) (req : List ℕ) (place : ℕ) : Type 0 where
  pub seen : Seen
  pub reached : ReadingReaches d req place seen
  pub whole : sound (drop place req) ≡ true
  pub flags : reserved (avp_flags (avp_at req place)) ≡ 0
  pub kind : kind_of (avp_at req place) ≡ supported_features

-- "A 628 holds these three 4-byte members once each"
abbrev pub holds_members : List ℕ → Bool
holds_members a = gathers feature_members (walk (data_of a))
