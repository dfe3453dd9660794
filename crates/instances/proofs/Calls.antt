-- The promise, the checks, demands 1 and 2: their hypotheses can be met by a SAR, computed.
use Rattle.std.specs.Prelude.{Result, Ok, Err}
use Rattle.octets.specs.Standard.{ℕ, ◌/◌, ◌≤◌, ◌≡◌, refl, sym, ap, ◌∙◌, List, [], ◌∷◌, ◌++◌, some, some-injective, true, false, inr, ◌≢◌, arith, ◌⊎◌}
use Rattle.octets.specs.Standard.{length, get_or, take, drop, eqb, lit<}
use Rattle.blocks.specs.Blocks.{block_of}
use Rattle.table.specs.Area.{size_in, table_in, check_area}
use Rattle.table.specs.Check.{check_table}
use Rattle.table.specs.Named.{private_at}
use Rattle.table.proofs.Areas.{check_exact, sound_size_in}
use Rattle.vectors.specs.VectorFile.{check_vectors}
use Rattle.diameter.specs.Put.{bytes_of}
use Rattle.pen.specs.Bytes.{number_bytes}
use Rattle.requests.specs.Request.{dialect_of, under_cx}
use Rattle.calling.specs.Call.{Answered, Refused}
use Rattle.calling.specs.Lent.{Lent, lent, table_only, dialect_in}
use Rattle.calling.specs.Serve.{Served, check_of, trials, decision, serve_table, serve}
use Rattle.calling.proofs.Areas.{serve_sound}
use Rattle.ndushavire.specs.Word.{word, check_word, call_word}
use Rattle.ndushavire.specs.Reads.{call_number, call_value, Reads, ReadsCheck}
use Rattle.ndushavire.specs.Promise.{DecidePromise}
use Rattle.worked_examples.proofs.Computed.{known, come, held, roomy, no_vectors}
use Rattle.worked_examples.proofs.Sample.{header, room, request, answer, s, z}
use Rattle.demands.specs.Call.{turned_away, answer_to}
use Rattle.demands.specs.Frame.{succeeds, subscription_of}
use Rattle.demands.proofs.Demands.{promised, promised_table, promised_exact, checked, checked_vectors, demand_1, demand_1_number, demand_1_none}
use Rattle.demands.proofs.Plain.{plain_same}
use Rattle.demands.proofs.Demands.{demand_1_block, demand_1_length, demand_1_fits, demand_1_within, demand_1_word, demand_1_kept, demand_2}
use Rattle.demands.proofs.Demands.{demand_2_failure, demand_2_others, demand_2_header, demand_2_bytes, demand_2_bits, demand_2_size, demand_2_sound}
use Rattle.demands.proofs.Demands.{demand_2_question, demand_2_room, demand_2_past}
use Rattle.instances.proofs.Asked.{table, twice, removed, vectors, cut_off, short, vendor, session, application, common, sar, asked, comes, all}
use Rattle.instances.proofs.Asked.{area_sound, of_area}

-- the table is sound; the SAR is a success, which rewrites record 1 alone
pub sound_table : check_table table 0 ≡ Ok 2
unfolding all
sound_table = refl

pub sound_vectors : check_vectors vectors ≡ Ok 2
unfolding all
sound_vectors = refl

pub sound_empty : check_table (header 0 0) 0 ≡ Ok 0
unfolding all
sound_empty = refl

pub removal : serve_table (asked (sar s 5)) ≡ comes removed (answer (number_bytes 268 2001) [])
unfolding all
removal = come (asked (sar s 5)) roomy sound_table no_vectors refl

taken : turned_away (table_only (asked (sar s 5))) ≡ false
unfolding all
taken = of_area (asked (sar s 5)) 2 sound_table (λ y. turned_away y ≡ false) (held (asked (sar s 5)) roomy sound_table no_vectors refl)

pub sound_area : check_area table 0 ≡ Ok 2
sound_area = area_sound (asked []) 2 sound_table

-- the same call, over the area that the table fills; it says 116 bytes, and the word that is promised says the same
pub removed_so : serve (asked (sar s 5)) ≡ comes removed (answer (number_bytes 268 2001) [])
removed_so = serve_sound (asked (sar s 5)) 2 sound_table ∙ removal

removal_call : (serve (asked (sar s 5))).call ≡ Answered (record { length = 116; place = 0 })
unfolding all
removal_call = ap (λ (x : Served). x.call) removed_so

promise : DecidePromise (asked (sar s 5)) 116 (serve (asked (sar s 5))).table (serve (asked (sar s 5))).vectors (serve (asked (sar s 5))).buffer
promise = record { word_is = sym (ap call_word removal_call); table_is = refl; vectors_is = refl; buffer_is = refl }

met_promised : (serve (asked (sar s 5))).call ≡ Answered (record { length = 116; place = 0 })
met_promised = ap (λ (x : Served). x.call) (promised (asked (sar s 5)) {r = 116} promise)

-- so it is what the plain engine returns
met_plain : {r : ℕ} {t v o : List ℕ} → DecidePromise (asked (sar s 5)) r t v o → r ≡ 116
met_plain p = (plain_same (asked (sar s 5)) p promise).0

met_promised_table : (serve_table (table_only (asked (sar s 5)))).call ≡ Answered (record { length = 116; place = 0 })
met_promised_table = ap (λ (x : Served). x.call) (promised_table (asked (sar s 5)) {r = 116} promise)

met_promised_exact : serve (asked (sar s 5)) ≡ serve_table (asked (sar s 5))
met_promised_exact = promised_exact (asked (sar s 5)) (sound_size_in table 0 2 sound_table)

-- of the table's check: 2 records, and block 2 where two have one public identity
twice_bad : check_table twice 0 ≡ Err 2
unfolding all twice
twice_bad = refl

twice_exact : length twice ≡ size_in twice
unfolding all twice size_in
twice_exact = refl

reads_table : (t : List ℕ) (c : Result ℕ ℕ) → length t ≡ size_in t → check_table t 0 ≡ c → ReadsCheck 5 c (check_word 5 c)
reads_table t c l e =
    let f : check_area t 0 ≡ c = check_exact t 0 l ∙ e in
    rw f at (checked t [] {r = check_word 5 (check_area t 0)} (record { answer = refl }))

met_checked : ReadsCheck 5 (Ok 2) 2
met_checked = reads_table table (Ok 2) (sound_size_in table 0 2 sound_table) sound_table

met_checked_bad : ReadsCheck 5 (Err 2) (word 5 0 2)
met_checked_bad = reads_table twice (Err 2) twice_exact twice_bad

-- of the vector file's: 2 blocks, and block 1 where it is cut off
reads_vectors : (v : List ℕ) (c : Result ℕ ℕ) → check_vectors v ≡ c → ReadsCheck 6 c (check_word 6 c)
reads_vectors v c e = rw e at (checked_vectors v {r = check_word 6 (check_vectors v)} (record { answer = refl }))

cut_off_bad : check_vectors cut_off ≡ Err 1
unfolding all cut_off
cut_off_bad = refl

met_checked_vectors : ReadsCheck 6 (Ok 2) 2
met_checked_vectors = reads_vectors vectors (Ok 2) sound_vectors

met_checked_cut : ReadsCheck 6 (Err 1) (word 6 0 1)
met_checked_cut = reads_vectors cut_off (Err 1) cut_off_bad

-- DEMAND 1: a request of 19 bytes is refusal 2, the third trial; the SAR is number 0 with the answer's length; two records of one public identity are
-- refusal 5; a vector file that has no whole block is refusal 6, which comes after 5
abbrev too_short : Lent
too_short = asked (take 19 (sar s 5))

met_1 : eqb (call_number (serve too_short).call) 2 ≡ true
unfolding all room
met_1 =
    (demand_1 too_short).given (take 2 (trials (table_only too_short))) (drop 3 (trials (table_only too_short)))
    (record { holds = true; number = 2; besides = 0 }) refl

met_1_within : 116 ≤ length room
met_1_within = rw removal_call at (demand_1_within (asked (sar s 5)) (rw removal_call))

met_1_number : (call_number (serve (asked (sar s 5))).call ≤ 6) ⊎ (call_number (serve (asked (sar s 5))).call ≡ 12)
met_1_number = demand_1_number (asked (sar s 5))

met_1_length : 116 ≡ length (answer_to (table_only (asked (sar s 5))) 2)
met_1_length = demand_1_length (asked (sar s 5)) (record { length = 116; place = 0 }) removal_call 2 sound_area

met_1_fits : length (answer_to (table_only (asked (sar s 5))) 2) ≤ 36864
unfolding all
met_1_fits = demand_1_fits (asked (sar s 5)) refl refl 2 sound_area (record { count = 0; checked = refl })

met_1_word : Reads (Answered (record { length = 116; place = 0 })) (call_word (Answered (record { length = 116; place = 0 })))
met_1_word = rw removal_call at (demand_1_word (asked (sar s 5)))

short_refused : (serve too_short).call ≡ Refused 2 0
unfolding all room
short_refused = refl

met_1_none : ◌≡◌ {A = ℕ} 0 0
met_1_none = demand_1_none too_short 2 0 short_refused (λ e. omega arith)

met_1_kept : (serve too_short).table ≡ table
unfolding all room
met_1_kept = (demand_1_kept too_short refl).0

doubled : Lent
doubled = lent (sar s 5) twice [] [] room (under_cx 3588 0)

doubled_refused : (serve doubled).call ≡ Refused 5 2
unfolding all doubled
doubled_refused =
    ap (λ (y : Served). y.call)
    (promised_exact doubled twice_exact ∙ come doubled {y = known false (Err 2) (Ok 0) doubled} roomy twice_bad no_vectors refl)

met_1_block : check_area twice 0 ≡ Err 2
unfolding doubled
met_1_block = demand_1_block doubled 2 doubled_refused

-- a SAR that reads no vector, over these and over a table of no record
spoilt : Lent
spoilt = lent (sar s 5) (header 0 0) [] short room (under_cx 3588 0)

short_bad : check_vectors short ≡ Err 0
unfolding all short
short_bad = refl

spoilt_sound : check_of spoilt ≡ Ok 0
unfolding spoilt
spoilt_sound = sound_empty

met_1_sixth : eqb (call_number (serve spoilt).call) 6 ≡ true
unfolding all room short spoilt table_in size_in
met_1_sixth =
    (demand_1 spoilt).given (take 6 (trials (table_only spoilt))) [] (record { holds = true; number = 6; besides = 0 }) refl

spoilt_refused : (serve spoilt).call ≡ Refused 6 0
unfolding all spoilt
spoilt_refused =
    ap (λ (y : Served). y.call)
    (serve_sound spoilt 0 spoilt_sound ∙ come spoilt {y = known false (Ok 0) (Err 0) spoilt} roomy sound_empty short_bad refl)

met_1_sixth_none : ◌≡◌ {A = ℕ} 0 0
met_1_sixth_none = demand_1_none spoilt 6 0 spoilt_refused (λ e. omega arith)

met_1_sixth_kept : (serve spoilt).vectors ≡ short
unfolding all spoilt
met_1_sixth_kept =
    (demand_1_kept spoilt (of_area spoilt 0 spoilt_sound (λ y. turned_away y ≡ true) (held spoilt roomy sound_empty short_bad refl))).1

met_1_fifth_first : (serve (lent (sar s 5) [] [] short room (under_cx 3588 0))).call ≡ Refused 5 0
unfolding all room short table_in size_in
met_1_fifth_first = refl

-- DEMAND 2: the removal leaves the decision's table, and of it record 2, the header, and of record 1 the identities and the bits above pending
met_2 : table_in (serve (asked (sar s 5))).table ≡ (decision (table_only (asked (sar s 5))) 2).table
met_2 = (demand_2 (asked (sar s 5)) 2 sound_area taken).1

other_owner : some (private_at table 2) ≢ subscription_of (dialect_of (under_cx 3588 0) (sar s 5)) (sar s 5) table 2
unfolding all
other_owner e =
    let d : ◌≡◌ {A = List ℕ} (0x71 ∷ []) (0x70 ∷ []) = some-injective _ _ e in
    let c : ◌≡◌ {A = ℕ} 0x71 0x70 = ap (λ (l : List ℕ). get_or l 0 0) d in omega arith

met_2_others : block_of (serve (asked (sar s 5))).table 2 ≡ block_of table 2
met_2_others =
    demand_2_others (asked (sar s 5)) 2 sound_area 2
    (inr (of_area (asked (sar s 5)) 2 sound_table
    (λ y. some (private_at table 2) ≢ subscription_of (dialect_in y) y.request y.table 2) other_owner))

met_2_header : block_of (serve (asked (sar s 5))).table 0 ≡ block_of table 0
met_2_header = demand_2_header (asked (sar s 5)) 2 sound_area

met_2_bytes : get_or (block_of (serve (asked (sar s 5))).table 1) 144 0 ≡ get_or (block_of table 1) 144 0
met_2_bytes = demand_2_bytes (asked (sar s 5)) 2 sound_area 1 144 (lit< tt) refl

met_2_bits : get_or (block_of (serve (asked (sar s 5))).table 1) 9 0 / 2 ≡ get_or (block_of table 1) 9 0 / 2
met_2_bits = demand_2_bits (asked (sar s 5)) 2 sound_area 1

met_2_size : length (serve (asked (sar s 5))).table ≡ length table
met_2_size = demand_2_size (asked (sar s 5))

met_2_sound : check_area (serve (asked (sar s 5))).table 0 ≡ Ok 2
met_2_sound = demand_2_sound (asked (sar s 5)) 2 sound_area

met_2_room : length (serve (asked (sar s 5))).buffer ≡ length room
met_2_room = demand_2_room (asked (sar s 5))

met_2_past : drop (call_value (serve (asked (sar s 5))).call) (serve (asked (sar s 5))).buffer ≡ drop (call_value (serve (asked (sar s 5))).call) room
met_2_past = demand_2_past (asked (sar s 5))

-- a name that differs is X5005 and leaves the table; so does a LIR
met_2_failure : (serve (asked (sar z 5))).table ≡ table
unfolding all
met_2_failure =
    (demand_2_failure (asked (sar z 5)) 2 sound_area
    (of_area (asked (sar z 5)) 2 sound_table (λ y. succeeds (decision y 2).given.verdict.result ≡ false) refl)).0

lir : List ℕ
lir = request 302 (bytes_of (session ∷ application ∷ common ++ (vendor 601 (0x61 ∷ []) ∷ [])))

met_2_question : (serve (asked lir)).table ≡ table
unfolding all lir
met_2_question =
    (demand_2_question (asked lir) (λ e. let d : ◌≡◌ {A = ℕ} 302 301 = e in omega arith) (λ e. let d : ◌≡◌ {A = ℕ} 302 303 = e in omega arith)).0
