-- How a MAR is read, computed: what it says, or the verdict on it; and what 607 and 612 are in the other commands.
use Rattle.octets.specs.Standard.{ℕ, ◌≡◌, refl, List, [], ◌∷◌, ◌++◌, map, replicate}
use Rattle.pen.specs.Bytes.{head_bytes, word_bytes, vendor_head, copied, avp_bytes, vendor_bytes, vendor_number}
use Rattle.reading.specs.declared.Verdict.{Verdict}
use Rattle.reading.specs.Kinds.{user_name, public_identity, auth_data_item, number_auth_items, server_name}
use Rattle.reading.specs.Verdicts.{fault_at, fault_of, lack_of}
use Rattle.failed.specs.Failing.{example}
use Rattle.requests.specs.Judged.{Judged, bad, fine}
use Rattle.requests.specs.Request.{dialect_of, under_cx, read_in, data_seen, value_seen, scheme_of}
use Rattle.worked_examples.proofs.Sample.{common, request, s, z, opened}

-- a fault; or what is said: User-Name, Public-Identity, the scheme, the number of items asked for, Server-Name
data Reading : Type 0 where
  blames : Verdict → Reading
  says : List ℕ → List ℕ → List ℕ → ℕ → List ℕ → Reading

abbrev reading_of : Judged → Reading
reading_of (bad v) = blames v
reading_of (fine seen) =
    says (data_seen seen user_name) (data_seen seen public_identity) (scheme_of seen) (value_seen seen number_auth_items) (data_seen seen server_name)

-- a command, the AVPs behind those that every request needs (from byte 112 on), and how it reads
record Case : Type 0 where
  command : ℕ
  avps : List (List ℕ)
  expected : Reading

abbrev reads : ℕ → List (List ℕ) → Reading → Case
reads command avps expected = record { command = command; avps = avps; expected = expected }

row : List (List ℕ) → List ℕ
row [] = []
row (a ∷ avps) = a ++ row avps

reading : Case → Reading
reading c = let req = request c.command (common ++ row c.avps) in reading_of (read_in (dialect_of (under_cx 3588 0) req) req)

-- User-Name `p` and Public-Identity `a`; three items asked for, and the Server-Name `s`; a MAR whose 612, at byte 140, holds these bytes
user : List ℕ
user = avp_bytes 1 (0x70 ∷ [])

public : List ℕ
public = vendor_bytes 601 (0x61 ∷ [])

rest : List (List ℕ)
rest = vendor_number 607 3 ∷ vendor_bytes 602 s ∷ []

asking : List ℕ → List (List ℕ)
asking held = user ∷ public ∷ vendor_bytes 612 held ∷ rest

-- five bytes; a 608 of them without its padding; such an AVP of another code, flags or vendor
five : List ℕ
five = 0x41 ∷ 0x4B ∷ 0x41 ∷ 0x76 ∷ 0x31 ∷ []

like : ℕ → ℕ → ℕ → List ℕ
like code flags vendor = head_bytes code flags 17 ++ (word_bytes vendor ++ five)

scheme : List ℕ
scheme = like 608 192 10415

-- 612 and 607, twice each and of bad content, before other AVPs
twice : List (List ℕ) → List (List ℕ)
twice avps = vendor_bytes 612 [] ∷ vendor_bytes 612 [] ∷ vendor_bytes 607 [] ∷ vendor_bytes 607 [] ∷ avps

-- the MAR says these bytes of its scheme; its 612 is at fault
said : List ℕ → Reading
said d = says (0x70 ∷ []) (0x61 ∷ []) d 3 s

bad_612 : Reading
bad_612 = blames (fault_at 5004 140)

abbrev cases : List Case
cases =
    -- everything; the last member's padding cut, in part or wholly, and whole, of any bytes; a further byte is a further AVP
    reads 303 (asking scheme) (said five)
    ∷ reads 303 (asking (scheme ++ replicate 1 7)) (said five)
    ∷ reads 303 (asking (scheme ++ replicate 2 7)) (said five)
    ∷ reads 303 (asking (scheme ++ replicate 3 7)) (said five)
    ∷ reads 303 (asking (scheme ++ replicate 4 7)) bad_612
    ∷ reads 303 (asking (scheme ++ replicate 7 7)) bad_612
    -- an empty scheme, and a 608 without M and with P, are no fault of reading
    ∷ reads 303 (asking (vendor_head 608 12)) (said [])
    ∷ reads 303 (asking (like 608 160 10415)) (said five)
    -- nothing in the 612; 608 without V, of another vendor, with a reserved flag, twice, cut off; 609; 613 behind the 608, and before it
    ∷ reads 303 (asking []) bad_612
    ∷ reads 303 (asking (head_bytes 608 64 13 ++ five)) bad_612
    ∷ reads 303 (asking (like 608 192 10416)) bad_612
    ∷ reads 303 (asking (like 608 193 10415)) bad_612
    ∷ reads 303 (asking (copied scheme ++ scheme)) bad_612
    ∷ reads 303 (asking (vendor_head 608 18 ++ five)) bad_612
    ∷ reads 303 (asking (like 609 192 10415)) bad_612
    ∷ reads 303 (asking (copied scheme ++ vendor_number 613 1)) bad_612
    ∷ reads 303 (asking (vendor_number 613 1 ++ scheme)) bad_612
    -- the missing ones in order: 1, 601, 612, 607, 602
    ∷ reads 303 [] (blames (lack_of user_name))
    ∷ reads 303 (user ∷ []) (blames (lack_of public_identity))
    ∷ reads 303 (user ∷ public ∷ []) (blames (lack_of auth_data_item))
    ∷ reads 303 (user ∷ public ∷ rest) (blames (lack_of auth_data_item))
    ∷ reads 303 (user ∷ public ∷ vendor_bytes 612 scheme ∷ []) (blames (lack_of number_auth_items))
    ∷ reads 303 (user ∷ public ∷ vendor_bytes 612 scheme ∷ vendor_bytes 602 s ∷ []) (blames (lack_of number_auth_items))
    ∷ reads 303 (user ∷ public ∷ vendor_bytes 612 scheme ∷ vendor_number 607 3 ∷ []) (blames (lack_of server_name))
    -- the greatest number and the longest name; 607 of 3 bytes; 602 of none and of 97
    ∷ reads 303 (user ∷ public ∷ vendor_bytes 612 scheme ∷ vendor_number 607 4294967295 ∷ vendor_bytes 602 (replicate 96 0x73) ∷ [])
    (says (0x70 ∷ []) (0x61 ∷ []) five 4294967295 (replicate 96 0x73))
    ∷ reads 303 (user ∷ public ∷ vendor_bytes 607 (0 ∷ 0 ∷ 3 ∷ []) ∷ []) (blames (fault_at 5014 140))
    ∷ reads 303 (user ∷ public ∷ vendor_bytes 602 [] ∷ []) (blames (fault_at 5004 140))
    ∷ reads 303 (user ∷ public ∷ vendor_bytes 602 (replicate 97 0x73) ∷ []) (blames (fault_at 5004 140))
    -- a second 601, 612, 607: too often
    ∷ reads 303 (user ∷ public ∷ public ∷ []) (blames (fault_at 5009 140))
    ∷ reads 303 (user ∷ public ∷ vendor_bytes 612 scheme ∷ vendor_bytes 612 [] ∷ []) (blames (fault_at 5009 172))
    ∷ reads 303 (user ∷ public ∷ vendor_number 607 1 ∷ vendor_bytes 607 [] ∷ []) (blames (fault_at 5009 156))
    -- 600, 614, 623 and 624 are skipped with M, of any length; 608 and 613 are unknown kinds, and so is 612 without V
    ∷ reads 303 (vendor_bytes 600 [] ∷ vendor_bytes 614 [] ∷ vendor_bytes 623 [] ∷ vendor_bytes 624 [] ∷ asking scheme) (said five)
    ∷ reads 303 (vendor_bytes 608 five ∷ asking scheme) (blames (fault_at 5001 112))
    ∷ reads 303 (vendor_number 613 1 ∷ asking scheme) (blames (fault_at 5001 112))
    ∷ reads 303 (avp_bytes 612 scheme ∷ asking scheme) (blames (fault_at 5001 112))
    -- in a UAR, a SAR and a LIR 612 and 607 are skipped with M, whatever they hold, any number of times
    ∷ reads 300 (twice (user ∷ public ∷ vendor_bytes 600 z ∷ [])) (says (0x70 ∷ []) (0x61 ∷ []) [] 0 [])
    ∷ reads 301 (twice (public ∷ vendor_bytes 602 s ∷ vendor_number 614 1 ∷ vendor_number 624 1 ∷ [])) (says [] (0x61 ∷ []) [] 0 s)
    ∷ reads 302 (twice (public ∷ [])) (says [] (0x61 ∷ []) [] 0 [])
    -- no other command is spoken
    ∷ reads 304 (asking scheme) (blames (fault_of 3001))
    ∷ reads 299 (asking scheme) (blames (fault_of 3001))
    ∷ []

readings : map reading cases ≡ map (λ (c : Case). c.expected) cases
unfolding opened reading row user public rest asking five like scheme twice said bad_612
readings = refl

-- B5005's example of a missing 612 has no data, that of a missing 607 has 4 zero bytes
lacking_612 : example auth_data_item ≡ vendor_head 612 12
unfolding opened
lacking_612 = refl

lacking_607 : example number_auth_items ≡ vendor_head 607 16 ++ replicate 4 0
unfolding opened
lacking_607 = refl
