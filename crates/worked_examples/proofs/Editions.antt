-- What a 260 holds, read by a peer of each edition of the base standard: one verdict for RFC 3588, one for RFC 6733.
use Rattle.octets.specs.Standard.{ℕ, ◌≡◌, refl, List, [], ◌∷◌, ◌++◌, map}
use Rattle.pen.specs.Bytes.{head_bytes, word_bytes, avp_bytes, vendor_bytes, number_bytes, vendor_number}
use Rattle.reading.specs.Groups.{rfc3588, rfc6733}
use Rattle.reading.specs.Verdicts.{fault_at}
use Rattle.reading.specs.declared.Verdict.{Verdict}
use Rattle.requests.specs.Judged.{Judged, bad, fine}
use Rattle.requests.specs.Request.{dialect_of, under_cx, read_in}
use Rattle.worked_examples.proofs.Sample.{request, s, opened}

-- read without a fault, or the verdict on it
data Reading : Type 0 where
  read : Reading
  blames : Verdict → Reading

abbrev reading_of : Judged → Reading
reading_of (bad v) = blames v
reading_of (fine seen) = read

-- the AVPs behind Session-Id, the first of them at byte 32, and how a SAR with them is read under RFC 3588 and under RFC 6733
record Case : Type 0 where
  front : List ℕ
  older : Reading
  newer : Reading

abbrev reads : List ℕ → Reading → Reading → Case
reads front older newer = record { front = front; older = older; newer = newer }

sar : List ℕ → List ℕ
sar front =
    let common = number_bytes 277 1 ++ (avp_bytes 264 (0x63 ∷ []) ++ (avp_bytes 296 (0x72 ∷ []) ++ avp_bytes 283 (0x72 ∷ []))) in
    let own = vendor_bytes 601 (0x61 ∷ []) ++ (vendor_bytes 602 s ++ (vendor_number 614 1 ++ vendor_number 624 1)) in
    request 301 (avp_bytes 263 (0x73 ∷ []) ++ (front ++ (common ++ own)))

reading : ℕ → Case → Reading
reading peer c = let req = sar c.front in reading_of (read_in (dialect_of (under_cx peer 0) req) req)

-- a Vendor-Id, and one of another vendor; the Auth-Application-Id; a 260 of some bytes
v : List ℕ
v = number_bytes 266 10415

w : List ℕ
w = number_bytes 266 10416

app : List ℕ
app = number_bytes 258 16777216

holding : List ℕ → List ℕ
holding d = avp_bytes 260 d

fault : ℕ → ℕ → Reading
fault n place = blames (fault_at n place)

abbrev cases : List Case
cases =
    -- just one Vendor-Id, before and behind the Auth-Application-Id
    reads (holding (v ++ app)) read read
    ∷ reads (holding (app ++ v)) read read
    -- two of them, in any order, and three
    ∷ reads (holding (v ++ (v ++ app))) read (fault 5009 32)
    ∷ reads (holding (v ++ (app ++ v))) read (fault 5009 32)
    ∷ reads (holding (app ++ (v ++ v))) read (fault 5009 32)
    ∷ reads (holding (v ++ (v ++ (app ++ v)))) read (fault 5009 32)
    -- otherwise not right, which is judged first: none; one of another vendor; no Auth-Application-Id, and two of them; another AVP; a reserved flag and V
    ∷ reads (holding app) (fault 5004 32) (fault 5004 32)
    ∷ reads (holding (v ++ (w ++ app))) (fault 5004 32) (fault 5004 32)
    ∷ reads (holding (v ++ v)) (fault 5004 32) (fault 5004 32)
    ∷ reads (holding (v ++ (v ++ (app ++ app)))) (fault 5004 32) (fault 5004 32)
    ∷ reads (holding (v ++ (v ++ (app ++ number_bytes 259 1)))) (fault 5004 32) (fault 5004 32)
    ∷ reads (holding (v ++ (head_bytes 266 65 12 ++ (word_bytes 10415 ++ app)))) (fault 5004 32) (fault 5004 32)
    ∷ reads (holding (v ++ (head_bytes 266 192 16 ++ (word_bytes 10415 ++ (word_bytes 10415 ++ app))))) (fault 5004 32) (fault 5004 32)
    -- .. a Vendor-Id of 5 bytes; one that is cut off
    ∷ reads (holding (v ++ (v ++ (app ++ avp_bytes 266 (0 ∷ 0 ∷ 40 ∷ 175 ∷ 0 ∷ []))))) (fault 5004 32) (fault 5004 32)
    ∷ reads (holding (v ++ (v ++ (app ++ head_bytes 266 64 12)))) (fault 5004 32) (fault 5004 32)
    -- a fault behind it, which is the first one under RFC 3588
    ∷ reads (holding (v ++ (v ++ app)) ++ avp_bytes 999 []) (fault 5001 76) (fault 5009 32)
    -- (c) of the 260 itself goes before; an earlier AVP's fault too; the second 260 is too often, (f), in both
    ∷ reads (head_bytes 260 65 44 ++ (v ++ (v ++ app))) (fault 3009 32) (fault 3009 32)
    ∷ reads (avp_bytes 999 [] ++ holding (v ++ (v ++ app))) (fault 5001 32) (fault 5001 32)
    ∷ reads (holding (v ++ app) ++ holding (v ++ (v ++ app))) (fault 5009 64) (fault 5009 64)
    ∷ reads (holding (v ++ (v ++ app)) ++ holding (v ++ app)) (fault 5009 76) (fault 5009 32)
    ∷ []

editions : (map (reading rfc3588) cases ≡ map (λ (c : Case). c.older) cases) × (map (reading rfc6733) cases ≡ map (λ (c : Case). c.newer) cases)
unfolding opened sar reading v w app holding fault
editions = (refl, refl)
