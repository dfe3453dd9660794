-- User-Data-Requests computed from the definitions: what is told, and an answer byte by byte.
use Rattle.octets.specs.Standard.{ℕ, ◌≡◌, refl, List, [], ◌∷◌, ◌++◌, map, true, false, set}
use Rattle.pen.specs.Bytes.{avp_bytes, vendor_bytes, number_bytes, vendor_head}
use Rattle.pen.specs.Groups.{experimental, failed}
use Rattle.reading.specs.Verdicts.{fault_at, fault_of, lack_of}
use Rattle.requests.specs.Request.{cx, sh, dialect_of, under_sh}
use Rattle.user_data.specs.UserData.{opening, name_start, name_end, state_start, state_end, closing}
use Rattle.sh.specs.Answer.{sh_answer}
use Rattle.sh.specs.Tell.{Telling, tell, tell_none, denied}
use Rattle.sh_example.proofs.Sample.{table, marks, request, common, udr, identity, outside, state, name, other, ask, reply, opened}

-- WHAT IS TOLD: of a request by a peer that follows RFC 3588
told : List ℕ → Telling
told req = tell (dialect_of (under_sh 3588) req) req table 4

record Case : Type 0 where
  asked : List ℕ
  expected : Telling

abbrev case : List ℕ → Telling → Case
case asked expected = record { asked = asked; expected = expected }

-- a success: the record's block, and whether its state and its name were asked for
success : ℕ → Telling
success k = record { verdict = fault_of 2001; block = k; asked = record { state = true; name = true; other = false } }

cases : List Case
cases =
    -- both, in either order and twice over
    case (ask 0x61 (state ++ name)) (success 1)
    ∷ case (ask 0x64 (name ++ (state ++ (name ++ state)))) (success 4)
    -- one of them
    ∷ case (ask 0x62 name) (record { verdict = fault_of 2001; block = 2; asked = record { state = false; name = true; other = false } })
    -- an unknown identity goes before another data reference
    ∷ case (ask 0x65 state) (denied 5001)
    ∷ case (ask 0x65 other) (denied 5001)
    ∷ case (ask 0x61 (state ++ other)) (denied 5100)
    -- what is missing: 700, then 703; 260 of the Cx application; a 700 of two 601s, of none, of an MSISDN
    ∷ case (udr state) (tell_none (lack_of 20))
    ∷ case (udr (identity 0x61)) (tell_none (lack_of 21))
    ∷ case (request 306 1 (common cx ++ (identity 0x61 ++ state))) (tell_none (fault_at 5004 32))
    ∷ case (udr (vendor_bytes 700 (vendor_bytes 601 (0x61 ∷ []) ++ vendor_bytes 601 (0x61 ∷ [])) ++ state)) (tell_none (fault_at 5004 112))
    ∷ case (udr (vendor_bytes 700 [] ++ state)) (tell_none (fault_at 5004 112))
    ∷ case (udr (vendor_bytes 700 (vendor_bytes 701 (0x61 ∷ [])) ++ state)) (tell_none (fault_at 5004 112))
    -- a 700 whose member's padding is cut; a second 700; a 703 of five bytes
    ∷ case (udr ((vendor_head 700 25 ++ (vendor_head 601 13 ++ (0x61 ∷ 0 ∷ 0 ∷ 0 ∷ []))) ++ (state ++ name))) (success 1)
    ∷ case (udr (identity 0x61 ++ identity 0x61)) (tell_none (fault_at 5009 140))
    ∷ case (ask 0x61 (vendor_bytes 703 (0 ∷ 0 ∷ 0 ∷ 0 ∷ 11 ∷ []))) (tell_none (fault_at 5014 140))
    -- kinds of the Cx server at the top level are unknown here: with M B5001, else skipped; 628 is skipped with M, whatever it holds
    ∷ case (udr (vendor_bytes 602 (0x73 ∷ []) ++ (identity 0x61 ++ state))) (tell_none (fault_at 5001 112))
    ∷ case (udr (outside 192 0x61 ++ (identity 0x61 ++ state))) (tell_none (fault_at 5001 112))
    ∷ case (udr (outside 128 0x62 ++ (identity 0x61 ++ (state ++ name)))) (success 1)
    ∷ case (udr (outside 128 0x61 ++ state)) (tell_none (lack_of 20))
    ∷ case (udr (vendor_bytes 628 (0x61 ∷ []) ++ (identity 0x61 ++ (state ++ name)))) (success 1)
    -- a User-Name is optional, and comes once
    ∷ case (udr (avp_bytes 1 (0x70 ∷ []) ++ (identity 0x61 ++ (state ++ name)))) (success 1)
    ∷ case (udr (avp_bytes 1 (0x70 ∷ []) ++ avp_bytes 1 (0x70 ∷ []))) (tell_none (fault_at 5009 124))
    -- another version, the E bit set; another command, another application
    ∷ case (set (ask 0x61 state) 0 2) (tell_none (fault_of 5011))
    ∷ case (set (ask 0x61 state) 4 0xE0) (tell_none (fault_of 3008))
    ∷ case (request 302 1 (common sh)) (tell_none (fault_of 3001))
    ∷ case (request 306 0 (common sh)) (tell_none (fault_of 3007))
    ∷ []

-- two Vendor-Ids in 260: B5009 for a peer that follows RFC 6733
vendors : List ℕ
vendors =
    avp_bytes 263 (0x73 ∷ []) ++ (avp_bytes 260 (number_bytes 266 10415 ++ (number_bytes 266 10415 ++ number_bytes 258 sh)) ++
    (number_bytes 277 1 ++ (avp_bytes 264 (0x63 ∷ []) ++ (avp_bytes 296 (0x72 ∷ []) ++ (avp_bytes 283 (0x72 ∷ []) ++ (identity 0x61 ++ (state ++ name)))))))

editions : (told (request 306 1 vendors) ≡ success 1)
    × (tell (dialect_of (under_sh 6733) (request 306 1 vendors)) (request 306 1 vendors) table 4 ≡ tell_none (fault_at 5009 32))
unfolding opened told success vendors
editions = (refl, refl)

worked : map (λ (c : Case). told c.asked) cases ≡ map (λ (c : Case). c.expected) cases
unfolding opened told success cases
worked = refl

-- THE ANSWERS, byte by byte
answer_to : List ℕ → List ℕ
answer_to req = sh_answer (under_sh 3588) req table (told req)

-- `<?xml version="1.0" encoding="UTF-8"?><Sh-Data><Sh-IMS-Data><SCSCFName>&lt;&amp;s</SCSCFName><IMSUserState>1</IMSUserState></Sh-IMS-Data></Sh-Data>`
both : List ℕ
both =
    0x3C ∷ 0x3F ∷ 0x78 ∷ 0x6D ∷ 0x6C ∷ 0x20 ∷ 0x76 ∷ 0x65 ∷ 0x72 ∷ 0x73 ∷ 0x69 ∷ 0x6F ∷ 0x6E ∷ 0x3D ∷ 0x22 ∷ 0x31 ∷ 0x2E ∷ 0x30 ∷ 0x22 ∷ 0x20
    ∷ 0x65 ∷ 0x6E ∷ 0x63 ∷ 0x6F ∷ 0x64 ∷ 0x69 ∷ 0x6E ∷ 0x67 ∷ 0x3D ∷ 0x22 ∷ 0x55 ∷ 0x54 ∷ 0x46 ∷ 0x2D ∷ 0x38 ∷ 0x22 ∷ 0x3F ∷ 0x3E ∷ 0x3C ∷ 0x53
    ∷ 0x68 ∷ 0x2D ∷ 0x44 ∷ 0x61 ∷ 0x74 ∷ 0x61 ∷ 0x3E ∷ 0x3C ∷ 0x53 ∷ 0x68 ∷ 0x2D ∷ 0x49 ∷ 0x4D ∷ 0x53 ∷ 0x2D ∷ 0x44 ∷ 0x61 ∷ 0x74 ∷ 0x61 ∷ 0x3E
    ∷ 0x3C ∷ 0x53 ∷ 0x43 ∷ 0x53 ∷ 0x43 ∷ 0x46 ∷ 0x4E ∷ 0x61 ∷ 0x6D ∷ 0x65 ∷ 0x3E ∷ 0x26 ∷ 0x6C ∷ 0x74 ∷ 0x3B ∷ 0x26 ∷ 0x61 ∷ 0x6D ∷ 0x70 ∷ 0x3B
    ∷ 0x73 ∷ 0x3C ∷ 0x2F ∷ 0x53 ∷ 0x43 ∷ 0x53 ∷ 0x43 ∷ 0x46 ∷ 0x4E ∷ 0x61 ∷ 0x6D ∷ 0x65 ∷ 0x3E ∷ 0x3C ∷ 0x49 ∷ 0x4D ∷ 0x53 ∷ 0x55 ∷ 0x73 ∷ 0x65
    ∷ 0x72 ∷ 0x53 ∷ 0x74 ∷ 0x61 ∷ 0x74 ∷ 0x65 ∷ 0x3E ∷ 0x31 ∷ 0x3C ∷ 0x2F ∷ 0x49 ∷ 0x4D ∷ 0x53 ∷ 0x55 ∷ 0x73 ∷ 0x65 ∷ 0x72 ∷ 0x53 ∷ 0x74 ∷ 0x61
    ∷ 0x74 ∷ 0x65 ∷ 0x3E ∷ 0x3C ∷ 0x2F ∷ 0x53 ∷ 0x68 ∷ 0x2D ∷ 0x49 ∷ 0x4D ∷ 0x53 ∷ 0x2D ∷ 0x44 ∷ 0x61 ∷ 0x74 ∷ 0x61 ∷ 0x3E ∷ 0x3C ∷ 0x2F ∷ 0x53
    ∷ 0x68 ∷ 0x2D ∷ 0x44 ∷ 0x61 ∷ 0x74 ∷ 0x61 ∷ 0x3E ∷ []

-- `<?xml version="1.0" encoding="UTF-8"?><Sh-Data><Sh-IMS-Data></Sh-IMS-Data></Sh-Data>`
neither : List ℕ
neither =
    0x3C ∷ 0x3F ∷ 0x78 ∷ 0x6D ∷ 0x6C ∷ 0x20 ∷ 0x76 ∷ 0x65 ∷ 0x72 ∷ 0x73 ∷ 0x69 ∷ 0x6F ∷ 0x6E ∷ 0x3D ∷ 0x22 ∷ 0x31 ∷ 0x2E ∷ 0x30 ∷ 0x22 ∷ 0x20
    ∷ 0x65 ∷ 0x6E ∷ 0x63 ∷ 0x6F ∷ 0x64 ∷ 0x69 ∷ 0x6E ∷ 0x67 ∷ 0x3D ∷ 0x22 ∷ 0x55 ∷ 0x54 ∷ 0x46 ∷ 0x2D ∷ 0x38 ∷ 0x22 ∷ 0x3F ∷ 0x3E ∷ 0x3C ∷ 0x53
    ∷ 0x68 ∷ 0x2D ∷ 0x44 ∷ 0x61 ∷ 0x74 ∷ 0x61 ∷ 0x3E ∷ 0x3C ∷ 0x53 ∷ 0x68 ∷ 0x2D ∷ 0x49 ∷ 0x4D ∷ 0x53 ∷ 0x2D ∷ 0x44 ∷ 0x61 ∷ 0x74 ∷ 0x61 ∷ 0x3E
    ∷ 0x3C ∷ 0x2F ∷ 0x53 ∷ 0x68 ∷ 0x2D ∷ 0x49 ∷ 0x4D ∷ 0x53 ∷ 0x2D ∷ 0x44 ∷ 0x61 ∷ 0x74 ∷ 0x61 ∷ 0x3E ∷ 0x3C ∷ 0x2F ∷ 0x53 ∷ 0x68 ∷ 0x2D ∷ 0x44
    ∷ 0x61 ∷ 0x74 ∷ 0x61 ∷ 0x3E ∷ []

-- `<?xml version="1.0" encoding="UTF-8"?><Sh-Data><Sh-IMS-Data><IMSUserState>3</IMSUserState></Sh-IMS-Data></Sh-Data>`
waits : List ℕ
waits =
    0x3C ∷ 0x3F ∷ 0x78 ∷ 0x6D ∷ 0x6C ∷ 0x20 ∷ 0x76 ∷ 0x65 ∷ 0x72 ∷ 0x73 ∷ 0x69 ∷ 0x6F ∷ 0x6E ∷ 0x3D ∷ 0x22 ∷ 0x31 ∷ 0x2E ∷ 0x30 ∷ 0x22 ∷ 0x20
    ∷ 0x65 ∷ 0x6E ∷ 0x63 ∷ 0x6F ∷ 0x64 ∷ 0x69 ∷ 0x6E ∷ 0x67 ∷ 0x3D ∷ 0x22 ∷ 0x55 ∷ 0x54 ∷ 0x46 ∷ 0x2D ∷ 0x38 ∷ 0x22 ∷ 0x3F ∷ 0x3E ∷ 0x3C ∷ 0x53
    ∷ 0x68 ∷ 0x2D ∷ 0x44 ∷ 0x61 ∷ 0x74 ∷ 0x61 ∷ 0x3E ∷ 0x3C ∷ 0x53 ∷ 0x68 ∷ 0x2D ∷ 0x49 ∷ 0x4D ∷ 0x53 ∷ 0x2D ∷ 0x44 ∷ 0x61 ∷ 0x74 ∷ 0x61 ∷ 0x3E
    ∷ 0x3C ∷ 0x49 ∷ 0x4D ∷ 0x53 ∷ 0x55 ∷ 0x73 ∷ 0x65 ∷ 0x72 ∷ 0x53 ∷ 0x74 ∷ 0x61 ∷ 0x74 ∷ 0x65 ∷ 0x3E ∷ 0x33 ∷ 0x3C ∷ 0x2F ∷ 0x49 ∷ 0x4D ∷ 0x53
    ∷ 0x55 ∷ 0x73 ∷ 0x65 ∷ 0x72 ∷ 0x53 ∷ 0x74 ∷ 0x61 ∷ 0x74 ∷ 0x65 ∷ 0x3E ∷ 0x3C ∷ 0x2F ∷ 0x53 ∷ 0x68 ∷ 0x2D ∷ 0x49 ∷ 0x4D ∷ 0x53 ∷ 0x2D ∷ 0x44
    ∷ 0x61 ∷ 0x74 ∷ 0x61 ∷ 0x3E ∷ 0x3C ∷ 0x2F ∷ 0x53 ∷ 0x68 ∷ 0x2D ∷ 0x44 ∷ 0x61 ∷ 0x74 ∷ 0x61 ∷ 0x3E ∷ []

-- the state's element of a digit, the name's of some bytes; a Proxy-Info
state_as : ℕ → List ℕ
state_as digit = state_start ++ (digit ∷ state_end)

name_as : List ℕ → List ℕ
name_as bytes = name_start ++ (bytes ++ name_end)

passed : List ℕ
passed = avp_bytes 284 (avp_bytes 280 (0x70 ∷ []) ++ avp_bytes 33 (0x71 ∷ []))

answers : (answer_to (ask 0x61 (state ++ name)) ≡ reply (number_bytes 268 2001) (vendor_bytes 702 both))
    × (answer_to (ask 0x62 name) ≡ reply (number_bytes 268 2001) (vendor_bytes 702 neither))
    × (answer_to (ask 0x63 state) ≡ reply (number_bytes 268 2001) (vendor_bytes 702 waits))
    × (answer_to (ask 0x62 state) ≡ reply (number_bytes 268 2001) (vendor_bytes 702 (opening ++ state_as 0x30 ++ closing)))
    × (answer_to (ask 0x64 (state ++ name)) ≡ reply (number_bytes 268 2001) (vendor_bytes 702 (opening ++ name_as marks ++ state_as 0x32 ++ closing)))
    × (answer_to (udr (identity 0x62 ++ (passed ++ name))) ≡ reply (number_bytes 268 2001) (vendor_bytes 702 (opening ++ closing) ++ passed))
    × (answer_to (ask 0x65 other) ≡ reply (experimental 5001) [])
    × (answer_to (ask 0x61 other) ≡ reply (experimental 5100) [])
    × (answer_to (udr state) ≡ reply (number_bytes 268 5005) (failed (vendor_bytes 700 [])))
    × (answer_to (udr (identity 0x61)) ≡ reply (number_bytes 268 5005) (failed (vendor_bytes 703 (0 ∷ 0 ∷ 0 ∷ 0 ∷ []))))
    -- of another command or application: E is set, the header is as it came, and 260 has the own application
    × (answer_to (request 302 1 (common sh)) ≡ set (set (reply (number_bytes 268 3001) []) 4 0x60) 7 0x2E)
    × (answer_to (request 306 0 (common cx)) ≡ set (set (reply (number_bytes 268 3007) []) 4 0x60) 11 0)
unfolding opened told answer_to both neither waits state_as name_as passed
answers = (refl, refl, refl, refl, refl, refl, refl, refl, refl, refl, refl, refl)
