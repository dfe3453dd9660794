-- The laws of the vector file can be met: two MARs in a row, each for two vectors, over a file of three of their name, computed. They send two and one. Each
-- table is in an area with two bytes behind it.
use Rattle.std.specs.Prelude.{Result, Ok}
use Rattle.octets.specs.Standard.{ℕ, ◌<◌, ◌≡◌, refl, sym, ap, ◌∙◌, List, [], ◌∷◌, ◌++◌, true, false, cond, ◌≢◌, arith, length, get_or, lit<}
use Rattle.octets.specs.Run.{over}
use Rattle.blocks.specs.Blocks.{block_of}
use Rattle.table.specs.Check.{check_table}
use Rattle.vectors.specs.Chosen.{sent_of}
use Rattle.vectors.specs.Sendable.{count_from}
use Rattle.vectors.specs.VectorFile.{check_vectors}
use Rattle.blocks.specs.Changed.{is_one}
use Rattle.pen.specs.Bytes.{avp_bytes, number_bytes, vendor_number}
use Rattle.reading.specs.Verdicts.{number_of}
use Rattle.reading.specs.declared.Outcome.TheVariants.{Base}
use Rattle.requests.specs.Request.{under_cx}
use Rattle.calling.specs.Call.{Answered}
use Rattle.calling.specs.Lent.{Lent, lent, table_only}
use Rattle.refusals.specs.Trial.{any_holds}
use Rattle.refusals.specs.Early.{small_buffer, check_value}
use Rattle.calling.specs.Serve.{Served, check_of, trials, decision, decided, result_of, serve_table, serve}
use Rattle.ndushavire.specs.Reads.{call_place}
use Rattle.vectors_sent.specs.Sent.{sent_by, Challenges, used_at, remaining, items_from, said_of, answer_with}
use Rattle.vectors_sent.specs.Row.{Turn, lending, left_by, sent_over, Once}
use Rattle.vectors_sent.proofs.Sending.{refusal_leaves, command_leaves, failure_leaves, only_success, others_stay, unsent_stay, sent_mark, sent_bytes_lem}
use Rattle.vectors_sent.proofs.Sending.{sent_number, sent_some, sent_first, answer_sends, success_place, success_says, sent_once, sent_over_lem}
use Rattle.vectors_sent.proofs.Sending.{sent_before, sent_after, sent_never}
use Rattle.worked_examples.proofs.Computed.{known_trials, come, held, roomy, unregistered_sound}
use Rattle.worked_examples.proofs.Sample.{vector, room, request, answer, assignment, authentication, item, challenges, one, waiting, s, opened}
use Rattle.sets_example.proofs.Behind.{piece, within, only_front, result_front}

-- three vectors of one private identity; with the first two used; with all used
unused : List ℕ
unused = vector 0 0x70 1 ++ (vector 0 0x70 5 ++ vector 0 0x70 9)

fewer : List ℕ
fewer = vector 1 0x70 1 ++ (vector 1 0x70 5 ++ vector 0 0x70 9)

used : List ℕ
used = vector 1 0x70 1 ++ (vector 1 0x70 5 ++ vector 1 0x70 9)

-- a MAR for two vectors over a table, and the row of two: the first stores the server name and sets pending, and the second is over the table that it left
abbrev turn : List ℕ → Turn
turn table = record { request = authentication 2 s; table = table ++ piece; profile = []; buffer = room; terms = under_cx 3588 0 }

-- the same over the table alone
abbrev front : List ℕ → List ℕ → Lent
front v table = lent (authentication 2 s) table [] v room (under_cx 3588 0)

abbrev row : List Turn
row = turn (one 0 0 []) ∷ turn (waiting 0 s) ∷ []

abbrev first : Lent
first = lending unused (turn (one 0 0 []))

abbrev second : Lent
second = lending fewer (turn (waiting 0 s))

-- a call without room for an answer; a SAR that registers `a`; a MAR without AVPs
abbrev refused : Lent
refused = lent [] [] [] unused [] (under_cx 3588 0)

abbrev registering : Lent
registering = lent (assignment 1 s) (one 0 0 []) [] unused room (under_cx 3588 0)

abbrev empty : Lent
empty = lent (request 303 []) (one 0 0 []) [] unused room (under_cx 3588 0)

-- a call that is answered by these bytes
comes : List ℕ → List ℕ → Served
comes vectors bytes = record { call = Answered (record { length = length bytes; place = 0 }); table = waiting 0 s; vectors = vectors; buffer = over bytes room }

-- all that the instances open
all : ℕ
unfolding opened unused fewer used comes any_holds sent_by remaining count_from
all = 0

-- the answers, with the number sent in 607, the table and the vectors afterwards; and the blocks that are sent
unused_sound : check_vectors unused ≡ Ok 3
unfolding all
unused_sound = refl

fewer_sound : check_vectors fewer ≡ Ok 3
unfolding all
fewer_sound = refl

waiting_sound : check_table (waiting 0 s) 0 ≡ Ok 1
unfolding all
waiting_sound = refl

first_comes : serve_table (front unused (one 0 0 [])) ≡ comes fewer (challenges 2 (item 1 1 ++ item 2 5))
unfolding all
first_comes = come (front unused (one 0 0 [])) roomy unregistered_sound unused_sound refl

second_comes : serve_table (front fewer (waiting 0 s)) ≡ comes used (challenges 1 (item 1 9))
unfolding all
second_comes = come (front fewer (waiting 0 s)) roomy waiting_sound fewer_sound refl

first_front : table_only first ≡ front unused (one 0 0 [])
first_front = only_front (front unused (one 0 0 [])) 1 unregistered_sound

second_front : table_only second ≡ front fewer (waiting 0 s)
second_front = only_front (front fewer (waiting 0 s)) 1 waiting_sound

-- what a call sends, by what its checks answer
sends : (x : Lent) {c d : Result ℕ ℕ} {ks : List ℕ} → small_buffer x.buffer ≡ false → check_of x ≡ c → check_vectors x.vectors ≡ d
    → cond (any_holds (known_trials false c d x)) [] (sent_of (decision x (check_value c)).given.sent) ≡ ks → sent_by x ≡ ks
unfolding sent_by
sends x o e f g = rw (o, e, f) g

first_sent : sent_by (front unused (one 0 0 [])) ≡ 0 ∷ 1 ∷ []
unfolding all
first_sent = sends (front unused (one 0 0 [])) roomy unregistered_sound unused_sound refl

first_sends : sent_by (table_only first) ≡ 0 ∷ 1 ∷ []
first_sends = ap sent_by first_front ∙ first_sent

second_sent : sent_by (front fewer (waiting 0 s)) ≡ 2 ∷ []
unfolding all
second_sent = sends (front fewer (waiting 0 s)) roomy waiting_sound fewer_sound refl

second_sends : sent_by (table_only second) ≡ 2 ∷ []
second_sends = ap sent_by second_front ∙ second_sent

-- the row: the blocks 0, 1 and 2, each once, and then all are used
first_leaves : (serve first).vectors ≡ fewer
unfolding comes
first_leaves = ap (λ (y : Lent). (serve_table y).vectors) first_front ∙ ap (λ (x : Served). x.vectors) first_comes

second_leaves : (serve second).vectors ≡ used
unfolding comes
second_leaves = ap (λ (y : Lent). (serve_table y).vectors) second_front ∙ ap (λ (x : Served). x.vectors) second_comes

row_sends : sent_over unused row ≡ 0 ∷ 1 ∷ 2 ∷ []
unfolding sent_over
row_sends = rw (first_leaves, first_sends, second_sends)

row_leaves : left_by unused row ≡ used
unfolding left_by
row_leaves = ap (λ (v : List ℕ). (serve (lending v (turn (waiting 0 s)))).vectors) first_leaves ∙ second_leaves

met_once : Once (0 ∷ 1 ∷ 2 ∷ [])
met_once = rw row_sends at (sent_once unused row)

met_over : used_at (left_by unused row) 2 ≡ 1
unfolding is_one
met_over = (sent_over_lem unused row 2 (rw row_sends)).1

-- the first is a success, since the file is another; it sends two of the three that remain, the first two
differ : fewer ≢ unused
unfolding all
differ e = let n : ◌≡◌ {A = ℕ} 1 0 = ap (λ (v : List ℕ). get_or v 1 0) e in omega arith

met_success : Challenges (table_only first)
met_success = only_success first (λ e. differ (sym first_leaves ∙ e))

sent_1 : is_one (sent_by (table_only first)) 1 ≡ true
unfolding is_one
sent_1 = rw first_sends

unsent_2 : is_one (sent_by (table_only first)) 2 ≡ false
unfolding is_one
unsent_2 = rw first_sends

met_number : length (sent_by (table_only first)) ≡ 2
unfolding all
met_number = sent_number first met_success

met_some : 0 < length (sent_by (table_only first))
met_some = sent_some first met_success

met_first : 1 < 2
unfolding all
met_first = sent_first first met_success 1 2 (lit< tt) refl unsent_2 sent_1

-- block 1 was unused, and is used after the first call and after both; the second does not send it
met_mark : (used_at unused 1 ≡ 0) × (used_at (serve first).vectors 1 ≡ 1)
met_mark = let m = sent_mark first 1 sent_1 in (m.2, m.3)

met_bytes : get_or (block_of (serve first).vectors 1) 4 0 ≡ get_or (block_of unused 1) 4 0
met_bytes = sent_bytes_lem first 1 sent_1 4 (omega arith) (omega arith)

met_before : used_at unused 1 ≡ 0
unfolding left_by
met_before = sent_before unused [] (turn (one 0 0 [])) 1 sent_1

met_after : used_at (left_by unused row) 1 ≡ 1
unfolding left_by
met_after = sent_after unused [] (turn (one 0 0 [])) (turn (waiting 0 s) ∷ []) 1 sent_1

met_never : is_one (sent_over (serve first).vectors (turn (waiting 0 s) ∷ [])) 1 ≡ false
unfolding left_by
met_never = sent_never unused [] (turn (one 0 0 [])) (turn (waiting 0 s) ∷ []) 1 sent_1

-- block 2 stays in the first call; so does a vector of another name
met_unsent : block_of (serve first).vectors 2 ≡ block_of unused 2
met_unsent = unsent_stay first 2 unsent_2

met_others : block_of (serve (lending (vector 0 0x71 1) (turn (one 0 0 [])))).vectors 0 ≡ block_of (vector 0 0x71 1) 0
unfolding all
met_others =
    others_stay (lending (vector 0 0x71 1) (turn (one 0 0 []))) 0
    (λ e. let n : ◌≡◌ {A = ℕ} 0x71 0x70 = ap (λ (name : List ℕ). get_or name 0 0) e in omega arith)

-- the answer says 2 in 607, and the items of the two blocks
met_answer : (serve first).buffer ≡ over (answer_with (table_only first) (decided (table_only first)).given (said_of unused (sent_by (table_only first)))) room
met_answer = (answer_sends first met_success.taken).1

-- a success blames no AVP
met_place : call_place (serve first).call ≡ 0
met_place = success_place first met_success

met_says : said_of unused (sent_by (table_only first)) ≡ vendor_number 607 2 ++ items_from unused 1 (sent_by (table_only first))
unfolding all
met_says = success_says first met_success

-- a call that is refused, for its buffer: the vectors stay
met_refused : ((serve refused).vectors ≡ unused) × (sent_by (table_only refused) ≡ [])
unfolding any_holds
met_refused = refusal_leaves refused refl

-- a SAR that succeeds, and a MAR without AVPs, are answered, with B2001 and B5005: the vectors stay, since the one is of another command, and the other an
-- error
registered : serve_table registering
    ≡ record {
      call = Answered (record { length = 128; place = 0 });
      table = one 0 1 s;
      vectors = unused;
      buffer = over (answer (number_bytes 268 2001) (avp_bytes 1 (0x70 ∷ []))) room;
    }
unfolding all
registered = come registering roomy unregistered_sound unused_sound refl

met_command : ((serve (within registering)).vectors ≡ unused) × (sent_by (table_only (within registering)) ≡ [])
unfolding all
met_command = command_leaves (within registering) (λ e. let n : ◌≡◌ {A = ℕ} 301 303 = e in omega arith)

failure_answered : any_holds (trials empty) ≡ false
unfolding all
failure_answered = held empty roomy unregistered_sound unused_sound refl

failure_result : result_of (table_only (within empty)) ≡ Base 5005
unfolding all
failure_result = result_front empty 1 unregistered_sound (Base 5005) refl

met_failure : ((serve (within empty)).vectors ≡ unused) × (sent_by (table_only (within empty)) ≡ [])
unfolding number_of
met_failure = failure_leaves (within empty) (λ e. let n : ◌≡◌ {A = ℕ} 5005 2001 = ap number_of (sym failure_result ∙ e) in omega arith)
