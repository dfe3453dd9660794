-- "Try these against it": document 01's five wrong servers, and others that break document 02 [1], [2], [8], [10] and [11]. Each is a function here, and at an
-- input that is computed its outcome does not meet the promise.
use Rattle.std.specs.Prelude.{Ok, Err}
use Rattle.octets.specs.Standard.{ℕ, zero, suc, ◌≤◌, ◌≡◌, refl, sym, ap, ◌∙◌, ◌≢◌, List, [], ◌∷◌, ◌++◌, false, arith, length, get_or, take, drop, set}
use Rattle.octets.specs.Run.{over}
use Rattle.table.specs.Area.{size_in, table_in, check_area}
use Rattle.table.proofs.Areas.{check_exact, sound_size_in}
use Rattle.vectors.specs.VectorFile.{check_vectors}
use Rattle.pen.specs.Bytes.{word_bytes, head_bytes, vendor_head, avp_bytes, vendor_bytes, number_bytes, vendor_number}
use Rattle.pen.specs.Groups.{experimental, failed, own_features}
use Rattle.requests.specs.Request.{under_cx}
use Rattle.calling.specs.Lent.{Lent, lent, holding}
use Rattle.calling.specs.Serve.{Served, check_of, serve_table, serve}
use Rattle.calling.specs.Call.{Answered, Refused}
use Rattle.calling.proofs.Areas.{served_rest, serve_sound, alike_call}
use Rattle.ndushavire.specs.Word.{word, check_word, call_word}
use Rattle.ndushavire.specs.Reads.{number_in, place_in}
use Rattle.ndushavire.specs.Promise.{CheckPromise, CheckVectorsPromise, DecidePromise}
use Rattle.worked_examples.proofs.Computed.{known, come, roomy, no_vectors, registered_sound, unregistered_sound}
use Rattle.worked_examples.proofs.Sample.{room, request, reply, answer, common, assignment, authentication, vector, item, challenges, one, waiting}
use Rattle.worked_examples.proofs.Sample.{person, two, digest, feature, assignment_with, s, z, opened}

-- what a call leaves
record CallLeft : Type 0 where
  word : ℕ
  table : List ℕ
  vectors : List ℕ
  buffer : List ℕ

-- A server may count its calls: it is a function of the number of the call in its run, 0 for the first, and of what is lent.
abbrev Server : Type 0
Server = ℕ → Lent → CallLeft

-- Call n of a run meets the promise, given x.
abbrev Meets : Server → ℕ → Lent → Type 0
Meets f n x = DecidePromise x (f n x).word (f n x).table (f n x).vectors (f n x).buffer

-- The true server, which shows that the inputs below are no trap.
truly : Server
truly n x = record { word = call_word (serve x).call; table = (serve x).table; vectors = (serve x).vectors; buffer = (serve x).buffer }

truly_meets : (n : ℕ) (x : Lent) → Meets truly n x
unfolding truly
truly_meets n x = record { word_is = refl; table_is = refl; vectors_is = refl; buffer_is = refl }

-- What the promise leaves of a call whose outcome is known.
module _ (f : Server) (n : ℕ) where
  word_given : {x : Lent} {y : Served} → serve x ≡ y → Meets f n x → (f n x).word ≡ call_word y.call
  word_given e p = p.word_is ∙ ap (λ (y : Served). call_word y.call) e

  table_given : {x : Lent} {y : Served} → serve x ≡ y → Meets f n x → (f n x).table ≡ y.table
  table_given e p = p.table_is ∙ ap (λ (y : Served). y.table) e

  vectors_given : {x : Lent} {y : Served} → serve x ≡ y → Meets f n x → (f n x).vectors ≡ y.vectors
  vectors_given e p = p.vectors_is ∙ ap (λ (y : Served). y.vectors) e

  buffer_given : {x : Lent} {y : Served} → serve x ≡ y → Meets f n x → (f n x).buffer ≡ y.buffer
  buffer_given e p = p.buffer_is ∙ ap (λ (y : Served). y.buffer) e

-- Two inputs over one registered line: a removal, B2001, which rewrites the record; and type 0 with another name, B5012. The word is 116 for both.
removal : Lent
removal = lent (assignment 5 s) (one 0 1 s) [] [] room (under_cx 3588 0)

question : Lent
question = lent (assignment 0 z) (one 0 1 s) [] [] room (under_cx 3588 0)

abbrev leaves : ℕ → ℕ → List ℕ → List ℕ → Served
leaves size place after bytes = record { call = Answered (record { length = size; place = place }); table = after; vectors = []; buffer = over bytes room }

abbrev comes : List ℕ → List ℕ → Served
comes = leaves 116 0

removal_served : serve removal ≡ comes (one 0 0 []) (answer (number_bytes 268 2001) [])
unfolding opened removal
removal_served = serve_sound removal 1 registered_sound ∙ come removal roomy registered_sound no_vectors refl

question_served : serve question ≡ comes (one 0 1 s) (answer (number_bytes 268 5012) [])
unfolding opened question
question_served = serve_sound question 1 registered_sound ∙ come question roomy registered_sound no_vectors refl

-- What the promise leaves of the removal: the word 116, state 0 in the record, and 2001, whose last byte is 209, in the answer; of the other 5012, whose last
-- byte is 148.
state : List ℕ → ℕ
state t = get_or t 520 0

result : List ℕ → ℕ
result o = get_or o 75 0

module _ (f : Server) (n : ℕ) where
  removal_word : Meets f n removal → (f n removal).word ≡ 116
  removal_word p = word_given f n removal_served p

  removal_state : Meets f n removal → state (f n removal).table ≡ 0
  unfolding state opened
  removal_state p = ap state (table_given f n removal_served p)

  removal_result : Meets f n removal → result (f n removal).buffer ≡ 209
  unfolding result opened
  removal_result p = ap result (buffer_given f n removal_served p)

  question_result : Meets f n question → result (f n question).buffer ≡ 148
  unfolding result opened
  question_result p = ap result (buffer_given f n question_served p)

-- Two answers whose results end alike cannot both be right, whatever else they take from the request.
alike_fails : (f : Server) (n : ℕ) → result (f n removal).buffer ≡ result (f n question).buffer → Meets f n removal → Meets f n question → ⊥
alike_fails f n e p q = omega (arith, e, removal_result f n p, question_result f n q)

-- 1. "a server that refuses everything", with any number, any place and anything besides, and leaves all as it came
refusing : (Lent → ℕ) → (Lent → ℕ) → (Lent → ℕ) → Server
refusing number place besides n x = record { word = word (number x) (place x) (besides x); table = x.table; vectors = x.vectors; buffer = x.buffer }

refusing_fails : (number place besides : Lent → ℕ) → 1 ≤ number removal → (n : ℕ) → Meets (refusing number place besides) n removal → ⊥
unfolding refusing
refusing_fails number place besides h n p = omega (arith, removal_word (refusing number place besides) n p)

-- 2. "one with a fixed answer": any word and any bytes, whatever is asked, and any files
fixed : ℕ → List ℕ → (Lent → List ℕ) → (Lent → List ℕ) → Server
fixed w bytes after spent n x = record { word = w; table = after x; vectors = spent x; buffer = over bytes x.buffer }

fixed_fails : (w : ℕ) (bytes : List ℕ) (after spent : Lent → List ℕ) (n : ℕ) → Meets (fixed w bytes after spent) n removal
    → Meets (fixed w bytes after spent) n question → ⊥
unfolding fixed removal question
fixed_fails w bytes after spent n = alike_fails (fixed w bytes after spent) n refl

-- 3. "one that writes no record": any word, any vectors and any buffer, and the table as it came
unwriting : (Lent → ℕ) → (Lent → List ℕ) → (Lent → List ℕ) → Server
unwriting word spent bytes n x = record { word = word x; table = x.table; vectors = spent x; buffer = bytes x }

unwriting_fails : (word : Lent → ℕ) (spent bytes : Lent → List ℕ) (n : ℕ) → Meets (unwriting word spent bytes) n removal → ⊥
unfolding unwriting removal state opened
unwriting_fails word spent bytes n p = omega (arith, removal_state (unwriting word spent bytes) n p)

-- 4. "one that serves the first request of a run truly and only imitates later". It meets the promise at the first call; at each later one it does what the
-- imitator does ..
once : Server → Server
once later zero x = truly zero x
once later (suc n) x = later n x

once_first : (later : Server) (x : Lent) → Meets (once later) 0 x
unfolding once
once_first later x = truly_meets 0 x

once_later : (later : Server) (n : ℕ) (x : Lent) → Meets (once later) (suc n) x → Meets later n x
unfolding once
once_later later n x p = p

-- .. which fails, be it one of the others or one that gives any outcome that it has seen or made up, by the number of the call and not by what is asked
imitating : (ℕ → CallLeft) → Server
imitating outcome n x = outcome n

once_fails : (outcome : ℕ → CallLeft) (n : ℕ) → Meets (once (imitating outcome)) (suc n) removal → Meets (once (imitating outcome)) (suc n) question → ⊥
unfolding imitating
once_fails outcome n p q =
    alike_fails (imitating outcome) n refl (once_later (imitating outcome) n removal p) (once_later (imitating outcome) n question q)

once_unwriting_fails : (word : Lent → ℕ) (spent bytes : Lent → List ℕ) (n : ℕ) → Meets (once (unwriting word spent bytes)) (suc n) removal → ⊥
once_unwriting_fails word spent bytes n p = unwriting_fails word spent bytes n (once_later (unwriting word spent bytes) n removal p)

-- 5. "one that invents the answer's length": any other word, beside the true table and the true answer ..
inventing : (Lent → ℕ) → Server
inventing word n x = record { word = word x; table = (truly n x).table; vectors = (truly n x).vectors; buffer = (truly n x).buffer }

inventing_fails : (word : Lent → ℕ) → word removal ≢ 116 → (n : ℕ) → Meets (inventing word) n removal → ⊥
unfolding inventing
inventing_fails word h n p = h (removal_word (inventing word) n p)

-- .. "or the record count": of the second entry, any word but the count of a sound table, and any but the first bad block of another
abbrev Checker : Type 0
Checker = List ℕ → List ℕ → ℕ

count_fails : (f : Checker) → f (one 0 1 s) [] ≢ word 0 0 1 → CheckPromise (one 0 1 s) [] (f (one 0 1 s) []) → ⊥
count_fails f h p =
    h (p.answer ∙ ap (check_word 5) (check_exact (one 0 1 s) 0 (sound_size_in (one 0 1 s) 0 1 registered_sound) ∙ registered_sound))

block_fails : (f : Checker) → f two [] ≢ word 5 0 2 → CheckPromise two [] (f two []) → ⊥
unfolding opened check_area table_in size_in
block_fails f h p = h p.answer

-- .. and of the check of vectors, any word but the number of blocks of a sound file, and any but the first bad block of another
card_sound : check_vectors (vector 0 0x70 1) ≡ Ok 1
unfolding opened
card_sound = refl

blocks_fails : (f : List ℕ → ℕ) → f (vector 0 0x70 1) ≢ word 0 0 1 → CheckVectorsPromise (vector 0 0x70 1) (f (vector 0 0x70 1)) → ⊥
blocks_fails f h p = h (p.answer ∙ ap (check_word 6) card_sound)

cut_fails : (f : List ℕ → ℕ) → f (take 511 (vector 0 0x70 1)) ≢ word 6 0 0
    → CheckVectorsPromise (take 511 (vector 0 0x70 1)) (f (take 511 (vector 0 0x70 1))) → ⊥
unfolding opened
cut_fails f h p = h p.answer

-- Document 02 [1]. Over a line in state 0 that has one unused vector: a MAR for two, which gets one; and a MAR for none, B5012.
challenge : Lent
challenge = lent (authentication 2 s) (one 0 0 []) [] (vector 0 0x70 1) room (under_cx 3588 0)

nought : Lent
nought = lent (authentication 0 s) (one 0 0 []) [] (vector 0 0x70 1) room (under_cx 3588 0)

challenge_served : serve challenge ≡ record {
  call = Answered (record { length = 336; place = 0 });
  table = waiting 0 s;
  vectors = vector 1 0x70 1;
  buffer = over (challenges 1 (item 1 1)) room;
}
unfolding opened challenge
challenge_served = serve_sound challenge 1 unregistered_sound ∙ come challenge roomy unregistered_sound card_sound refl

nought_served : serve nought ≡ record {
  call = Answered (record { length = 116; place = 0 });
  table = one 0 0 [];
  vectors = vector 0 0x70 1;
  buffer = over (reply 303 (number_bytes 268 5012) []) room;
}
unfolding opened nought
nought_served = serve_sound nought 1 unregistered_sound ∙ come nought roomy unregistered_sound card_sound refl

-- Whether the vector is used, whether the record is pending, and the number that the answer says is sent.
used : List ℕ → ℕ
used v = get_or v 1 0

bits : List ℕ → ℕ
bits t = get_or t 521 0

number : List ℕ → ℕ
number o = get_or o 159 0

module _ (f : Server) (n : ℕ) where
  challenge_used : Meets f n challenge → used (f n challenge).vectors ≡ 1
  unfolding used opened
  challenge_used p = ap used (vectors_given f n challenge_served p)

  challenge_bits : Meets f n challenge → bits (f n challenge).table ≡ 1
  unfolding bits opened
  challenge_bits p = ap bits (table_given f n challenge_served p)

  challenge_number : Meets f n challenge → number (f n challenge).buffer ≡ 1
  unfolding number opened
  challenge_number p = ap number (buffer_given f n challenge_served p)

  nought_used : Meets f n nought → used (f n nought).vectors ≡ 0
  unfolding used opened
  nought_used p = ap used (vectors_given f n nought_served p)

-- 6. one that sends the same vector again: it marks none, whatever else it does
unmarking : (Lent → ℕ) → (Lent → List ℕ) → (Lent → List ℕ) → Server
unmarking word after bytes n x = record { word = word x; table = after x; vectors = x.vectors; buffer = bytes x }

unmarking_fails : (word : Lent → ℕ) (after bytes : Lent → List ℕ) (n : ℕ) → Meets (unmarking word after bytes) n challenge → ⊥
unfolding unmarking challenge used opened
unmarking_fails word after bytes n p = omega (arith, challenge_used (unmarking word after bytes) n p)

-- 7. one that says the number asked, 2, for the number sent
asked_fails : (f : Server) (n : ℕ) → number (f n challenge).buffer ≡ 2 → Meets f n challenge → ⊥
asked_fails f n e p = omega (arith, e, challenge_number f n p)

-- 8. one that clears pending
cleared_fails : (f : Server) (n : ℕ) → bits (f n challenge).table ≡ 0 → Meets f n challenge → ⊥
cleared_fails f n e p = omega (arith, e, challenge_bits f n p)

-- 9. one that uses a vector though it answers with an error
wasting_fails : (f : Server) (n : ℕ) → used (f n nought).vectors ≡ 1 → Meets f n nought → ⊥
wasting_fails f n e p = omega (arith, e, nought_used f n p)

-- Document 02 [2]. A SAR of type 12, B5004, whose 614 stands at 144; and a SAR of type 1 with a second identity, which stands at 128: B5009, a decision's.
faulty : Lent
faulty = lent (assignment 12 s) (one 0 1 s) [] [] room (under_cx 3588 0)

second : Lent
second =
    let own = vendor_bytes 602 s ++ (vendor_number 614 1 ++ vendor_number 624 1) in
    lent (request 301 (common ++ (vendor_bytes 601 (0x61 ∷ []) ++ (vendor_bytes 601 (0x62 ∷ []) ++ own)))) (one 0 1 s) [] [] room (under_cx 3588 0)

faulty_call : (serve faulty).call ≡ Answered (record { length = 140; place = 144 })
unfolding opened faulty
faulty_call =
    ap (λ (y : Served). y.call)
    (serve_sound faulty 1 registered_sound ∙ come faulty {y = known false (Ok 1) (Ok 0) faulty} roomy registered_sound no_vectors refl)

second_served : serve second ≡ leaves 140 0 (one 0 1 s) (answer (number_bytes 268 5009) (failed (vendor_head 601 13 ++ (0x62 ∷ []))))
unfolding opened second
second_served = serve_sound second 1 registered_sound ∙ come second roomy registered_sound no_vectors refl

module _ (f : Server) (n : ℕ) where
  faulty_place : Meets f n faulty → place_in (f n faulty).word ≡ 144
  faulty_place p = ap place_in (p.word_is ∙ ap call_word faulty_call)

  second_place : Meets f n second → place_in (f n second).word ≡ 0
  second_place p = ap place_in (word_given f n second_served p)

-- 10. one that says another place than that of the AVP at fault, or none
misplaced_fails : (f : Server) (n : ℕ) → place_in (f n faulty).word ≢ 144 → Meets f n faulty → ⊥
misplaced_fails f n h p = h (faulty_place f n p)

-- 11. one that says a place where a decision, and no reading rule, blames an AVP, though Failed-AVP holds it
blaming_fails : (f : Server) (n : ℕ) → place_in (f n second).word ≢ 0 → Meets f n second → ⊥
blaming_fails f n h p = h (second_place f n p)

-- Document 02 [8]. The removal over an area that is longer than its table: behind the one record stand a record of the same line, and a last piece. As a table
-- the area has not the length of its count.
behind : List ℕ
behind = person 1 0x61 0x70 1 s ++ (1 ∷ 2 ∷ 3 ∷ [])

spacious : Lent
spacious = holding removal (one 0 1 s ++ behind)

spacious_alike : take (size_in (one 0 1 s ++ behind)) (one 0 1 s) ≡ take (size_in (one 0 1 s ++ behind)) (one 0 1 s ++ behind)
unfolding opened behind size_in
spacious_alike = refl

-- the call is the one over the table alone, and what is behind the table stays
spacious_call : (serve spacious).call ≡ Answered (record { length = 116; place = 0 })
unfolding spacious removal
spacious_call = sym (alike_call spacious (one 0 1 s) spacious_alike).call ∙ ap (λ (y : Served). y.call) removal_served

spacious_size : length (table_in spacious.table) ≡ 1024
unfolding opened spacious behind table_in size_in
spacious_size = refl

spacious_behind : drop 1024 (serve spacious).table ≡ drop 1024 spacious.table
spacious_behind =
    ap (λ (m : ℕ). drop m (serve spacious).table) (sym spacious_size) ∙ served_rest spacious ∙ ap (λ (m : ℕ). drop m spacious.table) spacious_size

-- 12. one that looks past the count, and serves the whole area as if it were the table: it refuses by 5
whole : Server
whole n x =
    record { word = call_word (serve_table x).call; table = (serve_table x).table; vectors = (serve_table x).vectors; buffer = (serve_table x).buffer }

spacious_long : check_of spacious ≡ Err 0
unfolding opened spacious behind
spacious_long = refl

whole_refuses : (serve_table spacious).call ≡ Refused 5 0
unfolding opened spacious removal
whole_refuses =
    ap (λ (y : Served). y.call) (come spacious {y = known false (Err 0) (Ok 0) spacious} roomy spacious_long no_vectors refl)

whole_fails : (n : ℕ) → Meets whole n spacious → ⊥
unfolding whole
whole_fails n p = omega (arith, sym (ap call_word whole_refuses) ∙ p.word_is ∙ ap call_word spacious_call)

-- 13. one whose word is another over the two areas with the same table at the front, whatever it looks at
looking_fails : (f : Server) (n : ℕ) → (f n spacious).word ≢ (f n removal).word → Meets f n spacious → Meets f n removal → ⊥
looking_fails f n h p q = h (p.word_is ∙ ap call_word spacious_call ∙ sym (removal_word f n q))

-- 14. one that changes a byte behind the table, as one that rewrites every record of the line that the area holds
spilling_fails : (f : Server) (n : ℕ) → drop 1024 (f n spacious).table ≢ drop 1024 spacious.table → Meets f n spacious → ⊥
spilling_fails f n h p = h (ap (drop 1024) p.table_is ∙ spacious_behind)

-- Document 02 [10]. The removal with a second Vendor-Id in its 260, which stands at 32: a success under RFC 3588, B5009 under RFC 6733, with the whole 260 in
-- Failed-AVP.
doubling : List ℕ → ℕ → Lent
doubling members peer =
    let base = number_bytes 277 1 ++ (avp_bytes 264 (0x63 ∷ []) ++ (avp_bytes 296 (0x72 ∷ []) ++ avp_bytes 283 (0x72 ∷ []))) in
    let own = vendor_bytes 601 (0x61 ∷ []) ++ (vendor_bytes 602 s ++ (vendor_number 614 5 ++ vendor_number 624 1)) in
    lent (request 301 (avp_bytes 263 (0x73 ∷ []) ++ (avp_bytes 260 members ++ (base ++ own)))) (one 0 1 s) [] [] room (under_cx peer 0)

members : List ℕ
members = number_bytes 266 10415 ++ (number_bytes 266 10415 ++ number_bytes 258 16777216)

two_ids : List ℕ
two_ids = avp_bytes 260 members

doubled : ℕ → Lent
doubled = doubling members

older_served : serve (doubled 3588) ≡ comes (one 0 0 []) (answer (number_bytes 268 2001) [])
unfolding opened doubling members two_ids doubled
older_served = serve_sound (doubled 3588) 1 registered_sound ∙ come (doubled 3588) roomy registered_sound no_vectors refl

newer_served : serve (doubled 6733) ≡ leaves 168 32 (one 0 1 s) (answer (number_bytes 268 5009) (failed two_ids))
unfolding opened doubling members two_ids doubled
newer_served = serve_sound (doubled 6733) 1 registered_sound ∙ come (doubled 6733) roomy registered_sound no_vectors refl

-- what Failed-AVP holds: 44 bytes
shown : List ℕ → List ℕ
shown o = take 44 (drop 124 o)

-- The same with another Auth-Application-Id, which is judged before Vendor-Ids are counted: B5004, under both.
misled : ℕ → Lent
misled peer = doubling (number_bytes 266 10415 ++ (number_bytes 266 10415 ++ number_bytes 258 16777217)) peer

misled_result : result (serve (misled 6733)).buffer ≡ 140
unfolding opened doubling misled result
misled_result =
    ap (λ (y : Served). result y.buffer) (serve_sound (misled 6733) 1 registered_sound ∙ come (misled 6733) roomy registered_sound no_vectors refl)

module _ (f : Server) (n : ℕ) where
  older_result : Meets f n (doubled 3588) → result (f n (doubled 3588)).buffer ≡ 209
  unfolding result opened
  older_result p = ap result (buffer_given f n older_served p)

  newer_result : Meets f n (doubled 6733) → result (f n (doubled 6733)).buffer ≡ 145
  unfolding result opened members two_ids
  newer_result p = ap result (buffer_given f n newer_served p)

  newer_shown : Meets f n (doubled 6733) → shown (f n (doubled 6733)).buffer ≡ two_ids
  unfolding shown opened members two_ids
  newer_shown p = ap shown (buffer_given f n newer_served p)

-- 15. one that gives anything but B5009 for it, as B5004, or nothing at all
content_fails : (f : Server) (n : ℕ) → result (f n (doubled 6733)).buffer ≢ 145 → Meets f n (doubled 6733) → ⊥
content_fails f n h p = h (newer_result f n p)

-- 16. one that shows anything but the whole 260 in Failed-AVP, as the second Vendor-Id
member_fails : (f : Server) (n : ℕ) → shown (f n (doubled 6733)).buffer ≢ two_ids → Meets f n (doubled 6733) → ⊥
member_fails f n h p = h (newer_shown f n p)

-- 17. one that returns another place than the 260's
astray_fails : (f : Server) (n : ℕ) → place_in (f n (doubled 6733)).word ≢ 32 → Meets f n (doubled 6733) → ⊥
unfolding opened
astray_fails f n h p = h (ap place_in (word_given f n newer_served p))

-- 18. one that gives anything but success under RFC 3588, as B5009 there too
newer_fails : (f : Server) (n : ℕ) → result (f n (doubled 3588)).buffer ≢ 209 → Meets f n (doubled 3588) → ⊥
newer_fails f n h p = h (older_result f n p)

-- 19. one that counts Vendor-Ids before it judges what is beside them
counting_fails : (f : Server) (n : ℕ) → result (f n (misled 6733)).buffer ≢ 140 → Meets f n (misled 6733) → ⊥
counting_fails f n h p = h (ap result p.buffer_is ∙ misled_result)

-- 20. one that gives anything but 12 under another number with no buffer at all, as 1
unheard : Lent
unheard = lent (assignment 5 s) (one 0 1 s) [] [] [] (under_cx 6734 0)

unheard_call : (serve unheard).call ≡ Refused 12 0
unfolding opened unheard
unheard_call = refl

late_fails : (f : Server) (n : ℕ) → number_in (f n unheard).word ≢ 12 → Meets f n unheard → ⊥
late_fails f n h p = h (ap number_in (p.word_is ∙ ap call_word unheard_call))

-- Document 02 [11]. Requests over the registered line to a server that supports some bits; to one of bits 0 and 2 the removal with AVPs at 112, and a
-- registration, whose identities are among them. A 628 that asks for bit 1, without M and with it.
supporting : ℕ → List ℕ → Lent
supporting features req = lent req (one 0 1 s) [] [] room (under_cx 3588 features)

abbrev wishing : List ℕ → Lent
wishing avps = supporting 5 (assignment_with avps 5 s)

abbrev registering : List ℕ → Lent
registering avps = supporting 5 (request 301 (common ++ (avps ++ (vendor_bytes 602 s ++ (vendor_number 614 1 ++ vendor_number 624 1)))))

hope : List ℕ
hope = feature 128 10415 1 2

want : List ℕ
want = feature 192 10415 1 2

supported : (features : ℕ) (req : List ℕ) {y : Served} → known false (Ok 1) (Ok 0) (supporting features req) ≡ y → serve (supporting features req) ≡ y
unfolding supporting
supported features req e =
    let x = supporting features req in
    serve_sound x 1 registered_sound ∙ come x roomy registered_sound no_vectors e

-- The AVP of the result, 12 bytes or, if it is experimental, 32; and what stands right after 296 where it has 12.
verdict : ℕ → List ℕ → List ℕ
verdict size o = take size (drop 64 o)

listed : List ℕ → List ℕ
listed o = take 56 (drop 116 o)

-- X5011 with the own list, and nothing altered; one that gives another result fails.
abbrev Unsupported : Lent → Type 0
Unsupported x = serve x ≡ leaves 192 0 (one 0 1 s) (answer (experimental 5011) (own_features 5))

unlike_it : (f : Server) (n : ℕ) {x : Lent} → Unsupported x → verdict 32 (f n x).buffer ≢ experimental 5011 → Meets f n x → ⊥
unfolding opened verdict
unlike_it f n e h p = h (ap (verdict 32) (buffer_given f n e p))

-- a bit outside the set
wanted_served : Unsupported (wishing want)
unfolding opened supporting want
wanted_served = supported 5 (assignment_with want 5 s) refl

-- 21. one that gives anything but X5011 for it, as one that ignores M
unmarked_fails : (f : Server) (n : ℕ) → verdict 32 (f n (wishing want)).buffer ≢ experimental 5011 → Meets f n (wishing want) → ⊥
unmarked_fails f n h p = unlike_it f n wanted_served h p

-- 22. one that alters the record all the same
altering_fails : (f : Server) (n : ℕ) → (f n (wishing want)).table ≢ one 0 1 s → Meets f n (wishing want) → ⊥
altering_fails f n h p = h (table_given f n wanted_served p)

-- 23. one that returns a place with it, or sends more or less than the own list behind 296, as a Failed-AVP
placing_fails : (f : Server) (n : ℕ) → (f n (wishing want)).word ≢ 192 → Meets f n (wishing want) → ⊥
placing_fails f n h p = h (word_given f n wanted_served p)

-- 24. one that judges without M too, and does anything but the removal
hoped_served : serve (wishing hope) ≡ leaves 172 0 (one 0 0 []) (answer (number_bytes 268 2001) (own_features 5))
unfolding opened supporting hope
hoped_served = supported 5 (assignment_with hope 5 s) refl

marking_fails : (f : Server) (n : ℕ) → (f n (wishing hope)).table ≢ one 0 0 [] → Meets f n (wishing hope) → ⊥
marking_fails f n h p = h (table_given f n hoped_served p)

-- 25. one that lets another vendor's list pass, and 26. one that lets another list of this vendor pass, since no bit of it is asked for
other_vendor : List ℕ
other_vendor = feature 192 10416 1 0

other_vendor_served : Unsupported (wishing other_vendor)
unfolding opened supporting other_vendor
other_vendor_served = supported 5 (assignment_with other_vendor 5 s) refl

bitless_fails : (f : Server) (n : ℕ) → verdict 32 (f n (wishing other_vendor)).buffer ≢ experimental 5011 → Meets f n (wishing other_vendor) → ⊥
bitless_fails f n h p = unlike_it f n other_vendor_served h p

other_list : List ℕ
other_list = feature 192 10415 2 0

other_list_served : Unsupported (wishing other_list)
unfolding opened supporting other_list
other_list_served = supported 5 (assignment_with other_list 5 s) refl

other_list_fails : (f : Server) (n : ℕ) → verdict 32 (f n (wishing other_list)).buffer ≢ experimental 5011 → Meets f n (wishing other_list) → ⊥
other_list_fails f n h p = unlike_it f n other_list_served h p

-- 27. one that decides before X5011: for an identity in no record (X5001), 28. for none (the SAR's B5005), and 29. for two (its B5009)
stranger : Lent
stranger = registering (want ++ vendor_bytes 601 (0x62 ∷ []))

stranger_served : Unsupported stranger
unfolding opened supporting want stranger
stranger_served = supported 5 stranger.request refl

deciding_fails : (f : Server) (n : ℕ) → verdict 32 (f n stranger).buffer ≢ experimental 5011 → Meets f n stranger → ⊥
deciding_fails f n h p = unlike_it f n stranger_served h p

nobody : Lent
nobody = registering want

nobody_served : Unsupported nobody
unfolding opened supporting want nobody
nobody_served = supported 5 nobody.request refl

needing_fails : (f : Server) (n : ℕ) → verdict 32 (f n nobody).buffer ≢ experimental 5011 → Meets f n nobody → ⊥
needing_fails f n h p = unlike_it f n nobody_served h p

couple : Lent
couple = registering (want ++ (vendor_bytes 601 (0x61 ∷ []) ++ vendor_bytes 601 (0x62 ∷ [])))

couple_served : Unsupported couple
unfolding opened supporting want couple
couple_served = supported 5 couple.request refl

several_fails : (f : Server) (n : ℕ) → verdict 32 (f n couple).buffer ≢ experimental 5011 → Meets f n couple → ⊥
several_fails f n h p = unlike_it f n couple_served h p

-- 30. one that marks a vector for a MAR that gets X5011
demanding : Lent
demanding =
    let own = vendor_bytes 612 digest ++ (vendor_number 607 1 ++ vendor_bytes 602 s) in
    let req = request 303 (common ++ (want ++ (avp_bytes 1 (0x70 ∷ []) ++ (vendor_bytes 601 (0x61 ∷ []) ++ own)))) in
    lent req (one 0 0 []) [] (vector 0 0x70 1) room (under_cx 3588 5)

demanding_served : serve demanding ≡ record {
  call = Answered (record { length = 192; place = 0 });
  table = one 0 0 [];
  vectors = vector 0 0x70 1;
  buffer = over (reply 303 (experimental 5011) (own_features 5)) room;
}
unfolding opened want demanding
demanding_served = serve_sound demanding 1 unregistered_sound ∙ come demanding roomy unregistered_sound card_sound refl

spending_fails : (f : Server) (n : ℕ) → (f n demanding).vectors ≢ vector 0 0x70 1 → Meets f n demanding → ⊥
spending_fails f n h p = h (vectors_given f n demanding_served p)

-- 31. one that gives X5011, or anything else, before it looks for what is missing; and 32. one that leaves its list out of this answer, an error's
lacking : Lent
lacking = supporting 5 (request 301 (common ++ want))

lacking_served : serve lacking ≡ leaves 192 0 (one 0 1 s) (answer (number_bytes 268 5005) (own_features 5 ++ failed (vendor_bytes 602 [])))
unfolding opened supporting want lacking
lacking_served = supported 5 (request 301 (common ++ want)) refl

early_fails : (f : Server) (n : ℕ) → verdict 12 (f n lacking).buffer ≢ number_bytes 268 5005 → Meets f n lacking → ⊥
unfolding opened verdict
early_fails f n h p = h (ap (verdict 12) (buffer_given f n lacking_served p))

sparing_fails : (f : Server) (n : ℕ) → listed (f n lacking).buffer ≢ own_features 5 → Meets f n lacking → ⊥
unfolding opened listed
sparing_fails f n h p = h (ap listed (buffer_given f n lacking_served p))

-- 33. one that sends its list for each 628, or not at all
both : Lent
both = wishing (hope ++ hope)

both_served : serve both ≡ leaves 172 0 (one 0 0 []) (answer (number_bytes 268 2001) (own_features 5))
unfolding opened supporting hope both
both_served = supported 5 (assignment_with (hope ++ hope) 5 s) refl

again_fails : (f : Server) (n : ℕ) → (f n both).word ≢ 172 → Meets f n both → ⊥
again_fails f n h p = h (word_given f n both_served p)

-- 34. one that writes it behind User-Name, which a registration's answer has, or with other flags, members or bits
naming : Lent
naming = registering (hope ++ vendor_bytes 601 (0x61 ∷ []))

naming_served : serve naming ≡ leaves 184 0 (one 0 1 s) (answer (number_bytes 268 2001) (own_features 5 ++ avp_bytes 1 (0x70 ∷ [])))
unfolding opened supporting hope naming
naming_served = supported 5 naming.request refl

behind_name_fails : (f : Server) (n : ℕ) → listed (f n naming).buffer ≢ own_features 5 → Meets f n naming → ⊥
unfolding opened listed
behind_name_fails f n h p = h (ap listed (buffer_given f n naming_served p))

-- 35. one that leaves it out where it supports no bit
empty : Lent
empty = supporting 0 (assignment_with hope 5 s)

empty_served : serve empty ≡ leaves 172 0 (one 0 0 []) (answer (number_bytes 268 2001) (own_features 0))
unfolding opened supporting hope empty
empty_served = supported 0 (assignment_with hope 5 s) refl

empty_fails : (f : Server) (n : ℕ) → (f n empty).word ≢ 172 → Meets f n empty → ⊥
empty_fails f n h p = h (word_given f n empty_served p)

-- 36. one that sends it where the header is at fault, here the version: B5011
headed : Lent
headed = supporting 5 (set (assignment_with hope 5 s) 0 2)

headed_served : serve headed ≡ leaves 116 0 (one 0 1 s) (answer (number_bytes 268 5011) [])
unfolding opened supporting hope headed
headed_served = supported 5 (set (assignment_with hope 5 s) 0 2) refl

header_fails : (f : Server) (n : ℕ) → (f n headed).word ≢ 116 → Meets f n headed → ⊥
header_fails f n h p = h (word_given f n headed_served p)

-- 37. one that sends it for a 628 behind a length fault: the answer has 116 bytes and Failed-AVP with the header alone, 16
cut : Lent
cut = wishing (head_bytes 999 0 7 ++ hope)

cut_served : serve cut ≡ leaves 132 112 (one 0 1 s) (answer (number_bytes 268 5014) (failed (head_bytes 999 0 8)))
unfolding opened supporting hope cut
cut_served = supported 5 (assignment_with (head_bytes 999 0 7 ++ hope) 5 s) refl

behind_fails : (f : Server) (n : ℕ) → (f n cut).word ≢ word 0 112 132 → Meets f n cut → ⊥
behind_fails f n h p = h (word_given f n cut_served p)

-- 38. one that takes the B5014 of (g), here of a 614 with 8 bytes, for such a length fault, and does not send it
wide : List ℕ
wide = vendor_bytes 614 (word_bytes 0 ++ word_bytes 5)

wide_served : serve (wishing (wide ++ hope)) ≡ leaves 192 112 (one 0 1 s) (answer (number_bytes 268 5014) (own_features 5 ++ failed (vendor_head 614 12)))
unfolding opened supporting hope wide
wide_served = supported 5 (assignment_with (wide ++ hope) 5 s) refl

ending_fails : (f : Server) (n : ℕ) → listed (f n (wishing (wide ++ hope))).buffer ≢ own_features 5 → Meets f n (wishing (wide ++ hope)) → ⊥
unfolding opened listed
ending_fails f n h p = h (ap listed (buffer_given f n wide_served p))
