-- "the place of the AVP at fault, or 0 when no AVP of the request is at fault": which AVP that is, by the bytes of the request and where they stand.
use Rattle.std.specs.Prelude.{ℕ, ◌+◌, ◌<◌, List, ◌++◌, true, false, ◌≡◌, ◌⊎◌, length, drop, set}
use Rattle.std.proofs.Math.Option.{some}
use Rattle.octets.specs.Run.{over}
use Rattle.table.specs.Area.{table_in}
use Rattle.diameter.specs.Avp.{padded, sound}
use Rattle.diameter.specs.AvpAt.{avp_at}
use Rattle.diameter.specs.Message.{body_of}
use Rattle.pen.specs.Groups.{failed}
use Rattle.reading.specs.Kinds.{kind_of}
use Rattle.reading.specs.Rules.{Seen, rule}
use Rattle.reading.specs.declared.Dialect.{Dialect}
use Rattle.reading.specs.declared.Outcome.TheVariants.{Base}
use Rattle.reading.specs.declared.Terms.{Terms}
use Rattle.reading.specs.declared.Ruled.TheVariants.{Taken, Skipped, Fault}
use Rattle.requests.specs.Judged.{nothing}
use Rattle.requests.specs.Request.{header_fault, first_other}
use Rattle.envelope.specs.Header.{header_bytes}
use Rattle.reply.specs.Pieces.{top_bytes}
use Rattle.envelope.specs.End.{proxies}
use Rattle.calling.specs.Lent.{Lent, dialect_in}
use Rattle.calling.specs.Serve.{Served}
use Rattle.calling.specs.Call.{Answered}
use Rattle.demands.specs.Call.{turned_away}

-- the place behind an AVP and its padding
abbrev pub behind_at : List ℕ → ℕ → ℕ
behind_at req at = at + padded (length (avp_at req at))

-- Reading comes to a place of the request with no fault before it: to the first AVP's, behind the header's 20 bytes; and behind each AVP that passes (a) and
-- that (c) to (h) take or skip. `seen` are those that were taken.
pub data ReadingReaches (d : Dialect) (req : List ℕ) : ℕ → Seen → Type 0 where
  first : ReadingReaches d req 20 nothing
  past_taken : (at : ℕ) (seen : Seen) → ReadingReaches d req at seen → sound (drop at req) ≡ true → rule d seen (avp_at req at) ≡ Taken
      → ReadingReaches d req (behind_at req at) (set seen (kind_of (avp_at req at)) (some (avp_at req at)))
  past_skipped : (at : ℕ) (seen : Seen) → ReadingReaches d req at seen → sound (drop at req) ≡ true → rule d seen (avp_at req at) ≡ Skipped
      → ReadingReaches d req (behind_at req at) seen

-- The AVP at a place is at fault, with a result: by (a), also "too few bytes left for the header"; or else by (c), (d), (f), (g) or (h).
pub data Breaks (d : Dialect) (req : List ℕ) (seen : Seen) (at : ℕ) : ℕ → Type 0 where
  length_fault : at < length req → sound (drop at req) ≡ false → Breaks d req seen at 5014
  rule_fault : (n : ℕ) → sound (drop at req) ≡ true → rule d seen (avp_at req at) ≡ Fault n → Breaks d req seen at n

-- its result: (a) and (g) B5014, (c) B3009, (d) B5001, (f) B5009, (h) B5004
abbrev pub OfRules : ℕ → Type 0
OfRules n = (n ≡ 5014) ⊎ (n ≡ 3009) ⊎ (n ≡ 5001) ⊎ (n ≡ 5009) ⊎ (n ≡ 5004)

-- An AVP of a request is at fault, with a result n, at a place: the header has no fault, (b) none either, and this AVP is the first that has one.
-- The header's fault is the server's that reads.
pub record AtFaultBy (fault : ℕ) (d : Dialect) (req : List ℕ) (n place : ℕ) : Type 0 where
  pub header : fault ≡ 0
  pub session : first_other (body_of req) ≡ false
  pub seen : Seen
  pub reached : ReadingReaches d req place seen
  pub breaks : Breaks d req seen place n

abbrev pub AtFault : Dialect → List ℕ → ℕ → ℕ → Type 0
AtFault d req = AtFaultBy (header_fault d req) d req

-- a call that is not refused, of a request in which the AVP at a place is at fault
pub record Blames (x : Lent) (place : ℕ) : Type 0 where
  pub taken : turned_away x ≡ false
  pub result : ℕ
  pub fault : AtFault (dialect_in x) x.request result place

-- the answer of such a call, byte by byte: its result, and in Failed-AVP what is shown of the AVP; it is made with the table at the front of the area, and
-- the whole area and the vectors are as they were
abbrev pub fault_body : Terms → List ℕ → List ℕ → ℕ → List ℕ → List ℕ
fault_body terms req t n shown = top_bytes terms req t (Base n) ++ (failed shown ++ proxies (body_of req))

abbrev pub fault_bytes : Terms → List ℕ → List ℕ → ℕ → List ℕ → List ℕ
fault_bytes terms req t n shown = header_bytes req (Base n) (20 + length (fault_body terms req t n shown)) ++ fault_body terms req t n shown

abbrev pub blaming : Lent → ℕ → List ℕ → ℕ → Served
blaming x n shown place =
    record {
      call = Answered (record { length = length (fault_bytes x.terms x.request (table_in x.table) n shown); place = place });
      table = x.table;
      vectors = x.vectors;
      buffer = over (fault_bytes x.terms x.request (table_in x.table) n shown) x.buffer;
    }
