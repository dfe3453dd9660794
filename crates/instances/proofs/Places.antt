-- The place: the hypotheses of its theorems can be met, by SARs over a table of no record, computed.
use Rattle.std.specs.Prelude.{Ok}
use Rattle.octets.specs.Standard.{ℕ, ◌≤◌, ◌<◌, ◌≡◌, refl, sym, ap, ◌∙◌, true, false, List, [], ◌∷◌, ◌++◌, map, arith, length, take, set}
use Rattle.diameter.specs.Put.{Piece}
use Rattle.pen.specs.Bytes.{word_bytes, vendor_head, number_bytes}
use Rattle.pen.specs.Groups.{failed}
use Rattle.reading.specs.declared.Outcome.TheVariants.{Base, Experimental}
use Rattle.requests.specs.Judged.{nothing}
use Rattle.requests.specs.Request.{dialect_of, under_cx}
use Rattle.calling.specs.Lent.{Lent, lent, table_only}
use Rattle.calling.specs.Serve.{Served, serve, result_of}
use Rattle.calling.proofs.Areas.{serve_sound}
use Rattle.table.specs.Area.{size_in, table_in}
use Rattle.ndushavire.specs.Word.{word, call_word}
use Rattle.ndushavire.specs.Reads.{call_place, place_in}
use Rattle.worked_examples.proofs.Computed.{known, come, held, roomy, no_vectors}
use Rattle.worked_examples.proofs.Sample.{header, room, answer, s}
use Rattle.demands.specs.Call.{turned_away}
use Rattle.demands.specs.Frame.{succeeds}
use Rattle.demands.specs.Insertion.{request_of}
use Rattle.demands.specs.Place.{first, past_taken, rule_fault, OfRules, AtFault, Blames}
use Rattle.demands.proofs.Place.{place_word, place_answer, place_is, place_blames, place_least, place_within, place_bytes, place_there, place_result}
use Rattle.demands.proofs.Place.{place_none, place_refused, place_header, place_first, place_decided, place_missing, place_experimental}
use Rattle.demands.proofs.Place.{place_success, place_most}
use Rattle.instances.proofs.Calls.{sound_table, sound_empty}
use Rattle.instances.proofs.Asked.{base, vendor, head, session, application, common, own, rest, sar, asked, comes_to, loud, all}
use Rattle.instances.proofs.Asked.{of_area}

abbrev bare : List ℕ → Lent
bare req = lent req (header 0 0) [] [] room (under_cx 3588 0)

-- a SAR of Session-Id and a row of AVPs
abbrev row : List Piece → List ℕ
row qs = request_of head (session ∷ qs) []

-- Type 12 is bad content, (h). Reading takes eight AVPs, the first at 20, and comes to the 614 at 144.
wrong_type : AtFault (dialect_of (under_cx 3588 0) (sar s 12)) (sar s 12) 5004 144
unfolding all
wrong_type =
    record {
      header = refl;
      session = refl;
      seen = _;
      reached =
          past_taken 128 _ (past_taken 112 _ (past_taken 100 _ (past_taken 88 _ (past_taken 76 _ (past_taken 64 _ (past_taken 32 _ (past_taken 20 nothing first
          refl refl) refl refl) refl refl) refl refl) refl refl) refl refl) refl refl) refl refl;
      breaks = rule_fault 5004 refl refl;
    }

blames : Blames (table_only (bare (sar s 12))) 144
unfolding all
blames =
    record {
      taken =
          of_area (bare (sar s 12)) 0 sound_empty (λ y. turned_away y ≡ false) (held (bare (sar s 12)) roomy sound_empty no_vectors refl);
      result = 5004;
      fault = wrong_type;
    }

met_answer : serve (bare (sar s 12)) ≡ comes_to 144 (header 0 0) [] (answer (number_bytes 268 5004) (failed (vendor_head 614 16 ++ word_bytes 12)))
unfolding all blames table_in size_in
met_answer = place_answer (bare (sar s 12)) 144 blames

met_is : call_place (serve (bare (sar s 12))).call ≡ 144
met_is = place_is (bare (sar s 12)) 144 blames

met_blames : Blames (table_only (bare (sar s 12))) 144
met_blames = rw met_is at (place_blames (bare (sar s 12)) (λ e. omega (arith, e, met_is)))

met_least : 20 ≤ 144
met_least = place_least (bare (sar s 12)) 144 blames

met_within : 144 < length (sar s 12)
met_within = place_within (bare (sar s 12)) 144 blames

met_bytes : 148 ≤ length (sar s 12)
met_bytes = place_bytes (bare (sar s 12)) 144 blames

met_result : (result_of (table_only (bare (sar s 12))) ≡ Base 5004) × OfRules 5004
unfolding blames
met_result = place_result (bare (sar s 12)) 144 blames

-- the answer has 140 bytes: so the word says 144 and 140
met_word : place_in (word 0 144 140) ≡ call_place (serve (bare (sar s 12))).call
unfolding all
met_word =
    place_word (bare (sar s 12))
    (record { word_is = ap (λ (y : Served). call_word y.call) (sym met_answer); table_is = refl; vectors_is = refl; buffer_is = refl })

met_there : (20 ≤ 144) × (148 ≤ length (sar s 12))
unfolding all
met_there =
    place_there (bare (sar s 12)) {r = word 0 144 140}
    (record { word_is = ap (λ (y : Served). call_word y.call) (sym met_answer); table_is = refl; vectors_is = refl; buffer_is = refl })
    (λ e. let n : ◌≡◌ {A = ℕ} 144 0 = e in omega arith)

met_most : call_place (serve (bare (sar s 12))).call ≤ 16380
met_most = place_most (bare (sar s 12))

-- A request of 19 bytes; of version 2; without Session-Id in front. The last two have the 614 of type 12 all the same.
met_refused : call_place (serve (bare (take 19 (sar s 12)))).call ≡ 0
unfolding all room
met_refused = place_refused (bare (take 19 (sar s 12))) refl

met_header : call_place (serve (bare (set (sar s 12) 0 2))).call ≡ 0
unfolding all
met_header = place_header (bare (set (sar s 12) 0 2)) (λ e. let d : ◌≡◌ {A = ℕ} 5011 0 = e in omega arith)

met_first : call_place (serve (bare (request_of head (rest s 12) []))).call ≡ 0
unfolding all
met_first = place_first (bare (request_of head (rest s 12) [])) refl

-- A SAR of type 1 with two identities: Failed-AVP holds the second, which stands at 128; but this is decided, and no fault of reading.
many : List ℕ
many = row (application ∷ common ++ (vendor 601 (0x61 ∷ []) ∷ vendor 601 (0x62 ∷ []) ∷ vendor 602 s ∷ vendor 614 (word_bytes 1) ∷ vendor 624 (word_bytes 1) ∷ []))

met_decided : call_place (serve (bare many)).call ≡ 0
unfolding all many
met_decided = place_decided (bare many) _ refl

many_answered : serve (bare many) ≡ comes_to 0 (header 0 0) [] (answer (number_bytes 268 5009) (failed (vendor_head 601 13 ++ (0x62 ∷ []))))
unfolding all many
many_answered = serve_sound (bare many) 0 sound_empty ∙ come (bare many) roomy sound_empty no_vectors refl

-- no 624, B5005; an identity that is in no record, X5001; a removal that succeeds
met_missing : call_place (serve (bare (row (application ∷ common ++ take 3 (own s 5))))).call ≡ 0
unfolding all
met_missing =
    let x : Lent = bare (row (application ∷ common ++ take 3 (own s 5))) in
    place_missing x (of_area x 0 sound_empty (λ y. result_of y ≡ Base 5005) refl)

met_experimental : call_place (serve (bare (sar s 5))).call ≡ 0
unfolding all
met_experimental = place_experimental (bare (sar s 5)) 5001 (of_area (bare (sar s 5)) 0 sound_empty (λ y. result_of y ≡ Experimental 5001) refl)

met_success : call_place (serve (asked (sar s 5))).call ≡ 0
unfolding all
met_success = place_success (asked (sar s 5)) (of_area (asked (sar s 5)) 2 sound_table (λ y. succeeds (result_of y) ≡ true) refl)

-- what has the place 0 blames none
met_none : call_place (serve (bare (sar s 5))).call ≡ 0
met_none =
    place_none (bare (sar s 5)) (λ p b. omega (arith, met_experimental, place_is (bare (sar s 5)) p b, place_least (bare (sar s 5)) p b))

-- Letter by letter: the place for each fault of reading. The AVPs stand at 20, 32, 64, 76, 88, 100, 112, 128, 144 and 160, and the SAR ends at 176.
abbrev place_of : List ℕ → ℕ
place_of req = call_place (serve (bare req)).call

abbrev letters : List (List ℕ)
letters =
    -- (a) a length of 4; too few bytes left for the header; the first AVP's length past the end
    request_of head (session ∷ rest s 5) (0 ∷ 0 ∷ 0 ∷ 1 ∷ 0 ∷ 0 ∷ 0 ∷ 4 ∷ [])
    ∷ request_of head (session ∷ rest s 5) (0 ∷ 0 ∷ 0 ∷ 1 ∷ [])
    ∷ set (sar s 5) 25 1
    -- (b) has none; (c) a reserved flag of the 264; (d) an unknown kind with M, between and at the end
    ∷ request_of head (rest s 5) []
    ∷ set (sar s 5) 80 65
    ∷ row (application ∷ loud ∷ common ++ own s 5)
    ∷ row (rest s 5 ++ (loud ∷ []))
    -- (f) the second 602, and a second Session-Id
    ∷ row (rest s 5 ++ (vendor 602 s ∷ []))
    ∷ row (rest s 5 ++ (session ∷ []))
    -- (g) a 614 of five bytes; (h) a type of 12, a Server-Name of no byte, a 260 whose second member is of another number: the 260's own place
    ∷ row (application ∷ common ++ (vendor 614 (0 ∷ word_bytes 5) ∷ []))
    ∷ sar s 12
    ∷ sar [] 5
    ∷ row (base 260 (number_bytes 266 10415 ++ number_bytes 258 16777217) ∷ common ++ own s 5)
    -- two faults: the first decides
    ∷ row (application ∷ common ++ (loud ∷ own s 12))
    ∷ []

-- the same by what the checks answer
abbrev place_known : List ℕ → ℕ
place_known req = call_place (known false (Ok 0) (Ok 0) (bare req)).call

all_known : (l : List (List ℕ)) → map place_of l ≡ map place_known l
all_known [] = refl
all_known (req ∷ l) =
    let e : place_of req ≡ place_known req =
    ap (λ (y : Served). call_place y.call)
    (serve_sound (bare req) 0 sound_empty ∙ come (bare req) {y = known false (Ok 0) (Ok 0) (bare req)} roomy sound_empty no_vectors refl) in
    rw (e, all_known l)

places : map place_of letters ≡ 176 ∷ 176 ∷ 20 ∷ 0 ∷ 76 ∷ 64 ∷ 176 ∷ 176 ∷ 176 ∷ 112 ∷ 144 ∷ 128 ∷ 32 ∷ 112 ∷ []
unfolding all
places = all_known letters
