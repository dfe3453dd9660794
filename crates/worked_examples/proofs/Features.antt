-- Supported-Features, by a server that supports bits 0 and 2: how it is read, whether it asks for more, and whether it calls for the own list; and answers.
use Rattle.std.specs.Prelude.{Ok}
use Rattle.octets.specs.Standard.{ℕ, ◌≡◌, refl, List, [], ◌∷◌, ◌++◌, map, Bool, true, false, length, replicate, set}
use Rattle.octets.specs.Run.{over}
use Rattle.vectors.specs.VectorFile.{check_vectors}
use Rattle.pen.specs.Bytes.{head_bytes, word_bytes, avp_bytes, vendor_bytes, number_bytes, vendor_number}
use Rattle.pen.specs.Groups.{experimental, failed}
use Rattle.reading.specs.Verdicts.{fault_at, fault_of, lack_of}
use Rattle.reading.specs.Kinds.{session_id, user_name, server_name}
use Rattle.reading.specs.declared.Verdict.{Verdict}
use Rattle.requests.specs.Features.{beyond_set, list_called}
use Rattle.requests.specs.Judged.{Judged, bad, fine}
use Rattle.requests.specs.Request.{dialect_of, under_cx, read_in}
use Rattle.calling.specs.Call.{Answered}
use Rattle.calling.specs.Lent.{Lent, lent}
use Rattle.calling.specs.Serve.{Served, serve_table}
use Rattle.worked_examples.proofs.Computed.{known, come, roomy, registered_sound}
use Rattle.worked_examples.proofs.Sample.{vector, room, request, reply, common, feature, assignment_with, digest, item, one, s, z, opened}

-- read without a fault, or the verdict on it
data Reading : Type 0 where
  read : Reading
  blames : Verdict → Reading

abbrev reading_of : Judged → Reading
reading_of (bad v) = blames v
reading_of (fine seen) = read

-- what comes of a request: its reading, whether it asks for more than is supported, and whether the answer carries the list
record Wants : Type 0 where
  reading : Reading
  beyond : Bool
  listed : Bool

record Case : Type 0 where
  supports : ℕ
  request : List ℕ
  wants : Wants

comes : Case → Wants
comes c =
    let terms = under_cx 3588 c.supports in
    record {
      reading = reading_of (read_in (dialect_of terms c.request) c.request);
      beyond = beyond_set terms c.request;
      listed = list_called terms c.request;
    }

-- by a server that supports some bits; by one that supports bits 0 and 2
abbrev case_by : ℕ → List ℕ → Reading → Bool → Bool → Case
case_by bits req reading beyond listed = record { supports = bits; request = req; wants = record { reading = reading; beyond = beyond; listed = listed } }

abbrev case : List ℕ → Reading → Bool → Bool → Case
case = case_by 5

-- the SAR with these AVPs at 112; the UAR, the LIR and the MAR
abbrev with : List ℕ → List ℕ
with avps = assignment_with avps 5 s

names : List ℕ
names = avp_bytes 1 (0x70 ∷ []) ++ vendor_bytes 601 (0x61 ∷ [])

uar : List ℕ → List ℕ
uar avps = request 300 (common ++ (avps ++ (names ++ vendor_bytes 600 z)))

lir : List ℕ → List ℕ
lir avps = request 302 (common ++ (avps ++ vendor_bytes 601 (0x61 ∷ [])))

mar : List ℕ → List ℕ
mar avps = request 303 (common ++ (avps ++ (names ++ (vendor_bytes 612 digest ++ (vendor_number 607 1 ++ vendor_bytes 602 s)))))

fault : ℕ → ℕ → Reading
fault n place = blames (fault_at n place)

-- without M, and with it; the members, and such as have other flags, or another vendor
hope : ℕ → ℕ → ℕ → List ℕ
hope = feature 128

want : ℕ → ℕ → ℕ → List ℕ
want = feature 192

vendor : List ℕ
vendor = number_bytes 266 10415

vendor_by : ℕ → List ℕ
vendor_by flags = head_bytes 266 flags 12 ++ word_bytes 10415

list : List ℕ
list = vendor_number 629 1

bits : List ℕ
bits = vendor_number 630 2

member : ℕ → ℕ → ℕ → ℕ → List ℕ
member code flags by n = head_bytes code flags 16 ++ (word_bytes by ++ word_bytes n)

holding : List ℕ → List ℕ
holding members = vendor_bytes 628 members

good : List ℕ
good = hope 10415 1 2

-- a 614 of 8 bytes
wide : List ℕ
wide = vendor_bytes 614 (word_bytes 0 ++ word_bytes 5)

abbrev cases : List Case
cases =
    -- none; without M nothing is judged
    case (with []) read false false
    ∷ case (with (hope 10415 1 2)) read false true
    ∷ case (with (hope 99 7 2)) read false true
    -- with M: bits that are supported, none, one that is not, and the highest
    ∷ case (with (want 10415 1 5)) read false true
    ∷ case (with (want 10415 1 4)) read false true
    ∷ case (with (want 10415 1 0)) read false true
    ∷ case (with (want 10415 1 2)) read true true
    ∷ case (with (want 10415 1 7)) read true true
    ∷ case (with (want 10415 1 2147483648)) read true true
    -- where no bit is supported, and where all are
    ∷ case_by 0 (with (want 10415 1 0)) read false true
    ∷ case_by 0 (with (want 10415 1 1)) read true true
    ∷ case_by 4294967295 (with (want 10415 1 4294967295)) read false true
    -- another list, or another vendor, though no bit is asked for
    ∷ case (with (want 10415 2 0)) read true true
    ∷ case (with (want 10416 1 0)) read true true
    -- in the other commands
    ∷ case (uar good) read false true
    ∷ case (uar (want 10415 1 2)) read true true
    ∷ case (uar (holding [])) (fault 5004 112) true false
    ∷ case (lir good) read false true
    ∷ case (lir (want 10415 1 2)) read true true
    ∷ case (lir (holding [])) (fault 5004 112) true false
    ∷ case (mar good) read false true
    ∷ case (mar (want 10415 1 2)) read true true
    ∷ case (mar (holding [])) (fault 5004 112) true false
    -- any number of them: one that asks for more is enough
    ∷ case (with (want 10415 1 1 ++ (hope 10415 1 2 ++ want 10415 1 4))) read false true
    ∷ case (with (want 10415 1 1 ++ (want 10415 1 2 ++ want 10415 1 4))) read true true
    -- its members in another order; without M, and with P
    ∷ case (with (holding (bits ++ (vendor ++ list)))) read true true
    ∷ case (with (holding (vendor_by 0 ++ (member 629 128 10415 1 ++ member 630 128 10415 2)))) read true true
    ∷ case (with (holding (vendor_by 96 ++ (member 629 160 10415 1 ++ member 630 224 10415 4)))) read false true
    -- one missing, twice, none; another beside them; 1 to 3 bytes behind them, and 4
    ∷ case (with (holding (vendor ++ list))) (fault 5004 112) false false
    ∷ case (with (holding (vendor ++ (list ++ (bits ++ bits))))) (fault 5004 112) true false
    ∷ case (with (holding [])) (fault 5004 112) true false
    ∷ case (with (holding (vendor ++ (list ++ (bits ++ vendor_number 631 0))))) (fault 5004 112) true false
    ∷ case (with (holding (vendor ++ (list ++ (bits ++ replicate 1 0))))) (fault 5004 112) true false
    ∷ case (with (holding (vendor ++ (list ++ (bits ++ replicate 2 0))))) (fault 5004 112) true false
    ∷ case (with (holding (vendor ++ (list ++ (bits ++ replicate 3 0))))) (fault 5004 112) true false
    ∷ case (with (holding (vendor ++ (list ++ (bits ++ replicate 4 0))))) (fault 5004 112) true false
    -- 629 without V, or of another vendor; 266 with V; 630 of 8 bytes, or with a reserved flag
    ∷ case (with (holding (vendor ++ (number_bytes 629 1 ++ bits)))) (fault 5004 112) true false
    ∷ case (with (holding (vendor ++ (member 629 192 10416 1 ++ bits)))) (fault 5004 112) true false
    ∷ case (with (holding (vendor_number 266 10415 ++ (list ++ bits)))) (fault 5004 112) true false
    ∷ case (with (holding (vendor ++ (list ++ vendor_bytes 630 (word_bytes 0 ++ word_bytes 2))))) (fault 5004 112) false false
    ∷ case (with (holding (vendor ++ (list ++ member 630 129 10415 4)))) (fault 5004 112) false false
    -- a reserved flag of its own, (c), goes before its content
    ∷ case (with (feature 129 10415 1 2)) (fault 3009 112) false false
    ∷ case (with (head_bytes 628 129 12 ++ word_bytes 10415)) (fault 3009 112) false false
    -- a bad one does not call for the list, another good one does, before it or behind it
    ∷ case (with (holding [] ++ good)) (fault 5004 112) true true
    ∷ case (with (good ++ feature 129 10415 1 2)) (fault 3009 168) false true
    -- without V, or of another vendor, 628 is an unknown kind, and 629 is one beside it
    ∷ case (with (avp_bytes 628 [])) (fault 5001 112) false false
    ∷ case (with (head_bytes 628 192 12 ++ word_bytes 10416)) (fault 5001 112) false false
    ∷ case (with list) (fault 5001 112) false false
    -- another AVP's fault does not stop the look, that of (g) neither; a length fault does
    ∷ case (with (avp_bytes 999 [] ++ good)) (fault 5001 112) false true
    ∷ case (with (vendor_number 614 12 ++ good)) (fault 5004 112) false true
    ∷ case (with (wide ++ good)) (fault 5014 112) false true
    ∷ case (with (head_bytes 999 0 7 ++ good)) (fault 5014 112) false false
    ∷ case (with (good ++ head_bytes 999 0 7)) (fault 5014 168) false true
    -- B5005 for what is missing, and for a first AVP that is no Session-Id: a 628, a 628 with another later, and another AVP
    ∷ case (request 301 (common ++ want 10415 1 2)) (blames (lack_of server_name)) true true
    ∷ case (request 303 (common ++ want 10415 1 2)) (blames (lack_of user_name)) true true
    ∷ case (request 301 (good ++ common)) (blames (lack_of session_id)) false false
    ∷ case (request 301 (good ++ (common ++ good))) (blames (lack_of session_id)) false true
    ∷ case (request 301 (avp_bytes 264 (0x63 ∷ []) ++ good)) (blames (lack_of session_id)) false true
    -- no list at a header fault: the version, E, the command, the application
    ∷ case (set (with good) 0 2) (blames (fault_of 5011)) false false
    ∷ case (set (with good) 4 0xE0) (blames (fault_of 3008)) false false
    ∷ case (request 304 (common ++ good)) (blames (fault_of 3001)) false false
    ∷ case (set (with good) 11 1) (blames (fault_of 3007)) false false
    ∷ []

features : map comes cases ≡ map (λ (c : Case). c.wants) cases
unfolding opened comes names uar lir mar fault hope want vendor vendor_by list bits member holding good wide
features = refl

-- Answers over the registered line and one vector. The own list stands here byte by byte: no writer of the definitions made it.
calling : List ℕ → Lent
calling req = lent req (one 0 1 s) [] (vector 0 0x70 1) room (under_cx 3588 5)

vector_sound : check_vectors (vector 0 0x70 1) ≡ Ok 1
unfolding opened
vector_sound = refl

computed : (req : List ℕ) {y : Served} → known false (Ok 1) (Ok 1) (calling req) ≡ y → serve_table (calling req) ≡ y
unfolding calling
computed req e = come (calling req) roomy registered_sound vector_sound e

abbrev Answers : List ℕ → ℕ → List ℕ → List ℕ → Type 0
Answers req place after bytes = serve_table (calling req)
    ≡ record { call = Answered (record { length = length bytes; place = place }); table = one 0 1 s; vectors = after; buffer = over bytes room }

own : List ℕ
own =
    0x00 ∷ 0x00 ∷ 0x02 ∷ 0x74 ∷ 0x80 ∷ 0x00 ∷ 0x00 ∷ 0x38 ∷ 0x00 ∷ 0x00 ∷ 0x28 ∷ 0xAF
    ∷ 0x00 ∷ 0x00 ∷ 0x01 ∷ 0x0A ∷ 0x40 ∷ 0x00 ∷ 0x00 ∷ 0x0C ∷ 0x00 ∷ 0x00 ∷ 0x28 ∷ 0xAF
    ∷ 0x00 ∷ 0x00 ∷ 0x02 ∷ 0x75 ∷ 0x80 ∷ 0x00 ∷ 0x00 ∷ 0x10 ∷ 0x00 ∷ 0x00 ∷ 0x28 ∷ 0xAF ∷ 0x00 ∷ 0x00 ∷ 0x00 ∷ 0x01
    ∷ 0x00 ∷ 0x00 ∷ 0x02 ∷ 0x76 ∷ 0x80 ∷ 0x00 ∷ 0x00 ∷ 0x10 ∷ 0x00 ∷ 0x00 ∷ 0x28 ∷ 0xAF ∷ 0x00 ∷ 0x00 ∷ 0x00 ∷ 0x05
    ∷ []

-- a MAR that gets its vector: the own list stands between 296 and User-Name
listed_maa : Answers (mar good) 0 (vector 1 0x70 1) (reply 303 (number_bytes 268 2001) (own ++ (names ++ (vendor_number 607 1 ++ item 1 1))))
unfolding opened calling names mar hope good own
listed_maa = computed (mar good) refl

-- one that asks for more: X5011, and the vector stays unused
unused_mar : Answers (mar (want 10415 1 2)) 0 (vector 0 0x70 1) (reply 303 (experimental 5011) own)
unfolding opened calling names mar want own
unused_mar = computed (mar (want 10415 1 2)) refl

-- B5004 has the whole 628 in Failed-AVP, and the own list for another one
whole_628 : Answers (lir (holding (vendor ++ list) ++ good)) 112 (vector 0 0x70 1) (reply 302 (number_bytes 268 5004) (own ++ failed (holding (vendor ++ list))))
unfolding opened calling names lir hope vendor list holding good own
whole_628 = computed (lir (holding (vendor ++ list) ++ good)) refl
