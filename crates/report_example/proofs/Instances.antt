-- Each theorem of the numbers has an instance: its hypotheses are met by the small month, or by a part of it.
use Rattle.std.specs.Prelude.{Result, Ok}
use Rattle.octets.specs.Standard.{ℕ, ◌+◌, ◌%◌, ◌^◌, ◌≤◌, ◌<◌, max, List, [], ◌∷◌, ◌++◌, ◌≡◌, refl, sym, ap, ◌∙◌, inl, inr, arith, length, get_or, take}
use Rattle.octets.specs.Standard.{drop, drop_at, lit≤, lit<}
use Rattle.octets.specs.Run.{over}
use Rattle.blocks.specs.Blocks.{block_of}
use Rattle.table.specs.Area.{size_in, table_in, check_area}
use Rattle.table.specs.Check.{check_table}
use Rattle.table.proofs.Areas.{in_all, read_front, sound_size_in, check_exact}
use Rattle.reading.specs.declared.Outcome.TheVariants.{Base, Experimental}
use Rattle.reading.specs.Verdicts.{number_of}
use Rattle.counting.specs.Results.{column_of}
use Rattle.counting.specs.Counting.{listed, Listed}
use Rattle.counting.specs.Words.{long_bytes}
use Rattle.counting.specs.Event.{Event}
use Rattle.requests.specs.Request.{under_cx}
use Rattle.calling.specs.Lent.{Lent, lent, asking, holding, table_only}
use Rattle.refusals.specs.Early.{check_value}
use Rattle.calling.specs.Serve.{serve_table, serve, decision, result_of}
use Rattle.calling.proofs.Areas.{only_sound}
use Rattle.ndushavire.specs.Word.{word, call_word}
use Rattle.ndushavire.specs.Reads.{place_in, value_in}
use Rattle.ndushavire.specs.Promise.{ReportPromise}
use Rattle.reporting.specs.Pieces.{stop_of}
use Rattle.reporting.specs.Row.{event_of, row, row_over, left_over}
use Rattle.reporting.specs.Report.{Reported, requests_of, reported}
use Rattle.report_numbers.specs.Area.{word_in, rows_in, refusals_in}
use Rattle.report_numbers.specs.File.{OneRequest, end_to_end, BrokenOff}
use Rattle.report_numbers.specs.Turns.{events_of, words_over, InTurn, call_at, call_length, altered_over, all_idle, going_on}
use Rattle.pen.specs.Bytes.{avp_bytes, vendor_bytes, number_bytes, vendor_number}
use Rattle.worked_examples.proofs.Computed.{come, roomy, no_vectors}
use Rattle.worked_examples.proofs.Sample.{block, room, request, reply, common, s}
use Rattle.report_example.proofs.Calls.{lir, removal, strayed, scrap, file, here, gone, month, each, sound_here, sound_gone, comes, counts, counted_from}
use Rattle.report_example.proofs.Calls.{all, located_counts}
use Rattle.report_example.proofs.Month.{area, enough, month_requests, month_stop, month_number, month_events, month_table, counting}
use Rattle.diameter.specs.Message.{body_of}
use Rattle.diameter.specs.Put.{All}
use Rattle.demands.specs.Peers.{by_peer, vendor_ids, OneVendor}
use Rattle.demands.proofs.Editions.{one_vendor, one_says}
use Rattle.report_numbers.proofs.Numbers as numbers

-- the month's length
size : length file < 2 ^ 56
unfolding all file end_to_end
size = lit< tt

short : length month.request < 2 ^ 64
unfolding month
short = omega (arith, size)

-- THE REPORT
abbrev outcome : Reported
outcome = reported month area

promised : ReportPromise month area (word 7 0 0) outcome.table outcome.vectors outcome.buffer outcome.area
promised =
    record {
      word_is = ap (λ (n : ℕ). word n 0 0) (sym month_number);
      table_is = refl;
      vectors_is = refl;
      buffer_is = refl;
      area_is = refl;
    }

met_unique : word 7 0 0 ≡ word 7 0 0
met_unique = (numbers.report_unique month area (word 7 0 0) (word 7 0 0) _ _ _ _ _ _ _ _ promised promised).0

met_meant : ((reported month area).number ≡ 7) × (place_in (word 7 0 0) ≡ 0) × (value_in (word 7 0 0) ≡ 0)
met_meant = let m = numbers.report_meant month area promised in (ap (λ (r : Reported). r.number) m.0, m.1, m.2)

-- THE FILE: the removal is the second of four requests
second : InTurn (requests_of month)
second = record { before = lir ∷ []; request = removal; after = lir ∷ strayed ∷ []; is = month_requests }

met_event : events_of month
    ≡ row_over month (lir ∷ []) ++ (event_of (table_only (call_at month second)) ∷ row_over (left_over month (lir ∷ removal ∷ [])) (lir ∷ strayed ∷ []))
unfolding second
met_event = numbers.report_event month second

-- THE WORDS
met_bytes : take 8 (drop 8 (reported month area).area) ≡ long_bytes (get_or (words_over month) 1 0)
met_bytes = numbers.report_bytes month area enough 1 (omega arith)

met_place : word_in (reported month area).area 1 ≡ 452
unfolding month
met_place = numbers.report_place month area enough short ∙ month_stop

met_word : word_in (reported month area).area 3 ≡ 136
unfolding counting
met_word = numbers.report_word month area enough 3 (omega arith) (omega arith) ∙ rw month_events

met_count : word_in (reported month area).area 70 ≡ 1
unfolding counting
met_count = numbers.report_count month area enough short 70 (omega arith) (omega arith) (omega arith) (omega arith) ∙ rw month_events

met_read : word_in (reported month area).area 0 ≡ 4
met_read = numbers.report_read month area enough short ∙ ap length month_requests

met_refused : word_in (reported month area).area 8 ≡ 1
unfolding counting
met_refused = numbers.report_refused month area enough short 4 (omega arith) (omega arith) ∙ rw month_events

met_answered : word_in (reported month area).area 89 ≡ 1
unfolding counting
met_answered = numbers.report_answered month area enough short 2 19 (omega arith) (omega arith) ∙ rw month_events

met_totals : rows_in (reported month area).area + refusals_in (reported month area).area ≡ 4
met_totals = numbers.report_totals month area enough short ∙ met_read

met_rows : rows_in (reported month area).area ≡ word_in (reported month area).area 4
met_rows = numbers.report_rows month area enough short

met_altered : word_in (reported month area).area 2 ≡ altered_over month (requests_of month)
unfolding month
met_altered = numbers.report_altered_exact month area enough size

met_largest : call_length (serve (call_at month second)).call ≤ 136
met_largest = omega (arith, met_word, numbers.report_largest month area enough second)

met_columns : Base 5012 ≡ Base 5012
unfolding counting listed
met_columns = numbers.report_columns (Base 5012) (Base 5012) refl refl refl

-- "B and X apart": one number, two columns
base_column : column_of (Base 5001) ≡ 5
unfolding counting
base_column = refl

experimental_column : column_of (Experimental 5001) ≡ 17
unfolding counting
experimental_column = refl

-- the LIR's result has a column; the removal's is in the same, and so is the same
alone : Lent
alone = lent lir here [] [] room (under_cx 3588 0)

alone_only : table_only alone ≡ alone
unfolding alone
alone_only = only_sound alone 1 sound_here

met_column : Listed (result_of (table_only alone))
met_column = numbers.report_column alone

taking : Lent
taking = lent removal here [] [] room (under_cx 3588 0)

taking_only : table_only taking ≡ taking
unfolding taking
taking_only = only_sound taking 1 sound_here

both_first : column_of (result_of alone) ≡ column_of (result_of taking)
unfolding all alone taking counting
both_first = ap (λ (c : Result ℕ ℕ). column_of (decision alone (check_value c)).given.verdict.result) sound_here
    ∙ sym (ap (λ (c : Result ℕ ℕ). column_of (decision taking (check_value c)).given.verdict.result) sound_here)

met_own_column : result_of (table_only alone) ≡ result_of (table_only taking)
met_own_column =
    numbers.report_own_column alone taking
    (ap (λ (y : Lent). column_of (result_of y)) alone_only ∙ both_first ∙ ap (λ (y : Lent). column_of (result_of y)) (sym taking_only))

met_unable : (word_in (reported month area).area 31 ≡ 0) × (word_in (reported month area).area 81 ≡ 0)
met_unable = numbers.report_unable month area enough

-- the same of a file of one UAR, of type 1, which is answered with the server name: its row counts that, and no B5012
uar : List ℕ
uar = request 300 (common ++ (avp_bytes 1 (0x70 ∷ []) ++ (vendor_bytes 601 (0x61 ∷ []) ++ (vendor_bytes 600 (0x76 ∷ []) ++ vendor_number 623 1))))

abbrev authorizing : Lent
authorizing = lent uar here [] [] room (under_cx 3588 0)

uar_one : OneRequest uar
unfolding all uar
uar_one = record { own = refl; least = lit≤ tt }

uar_comes : serve_table authorizing ≡ comes 132 here (over (reply 300 (number_bytes 268 2001) (vendor_bytes 602 s)) room)
unfolding all uar
uar_comes = come authorizing roomy sound_here no_vectors refl

uar_counts : event_of authorizing ≡ counts 300 (Base 2001) 132 0
unfolding all uar
uar_counts = counted_from authorizing 132 here [] _ uar_comes sound_here

uar_events : events_of authorizing ≡ counts 300 (Base 2001) 132 0 ∷ []
uar_events =
    numbers.report_one authorizing uar_one ∙ ap (λ (y : Lent). event_of y ∷ []) (only_sound authorizing 1 sound_here)
    ∙ ap (λ (e : Event). e ∷ []) uar_counts

uar_short : length uar < 2 ^ 64
unfolding all uar
uar_short = lit< tt

met_authorized : word_in (reported authorizing area).area 20 ≡ 1
unfolding counting
met_authorized = numbers.report_answered authorizing area enough uar_short 0 0 (omega arith) (omega arith) ∙ rw uar_events

met_unable_uar : (word_in (reported authorizing area).area 31 ≡ 0) × (word_in (reported authorizing area).area 81 ≡ 0)
met_unable_uar = numbers.report_unable authorizing area enough

-- THE ENDS: no room for the words; two requests that are a whole file; and the 3 bytes
met_15 : (reported month []).number ≡ 15
met_15 = ap (λ (r : Reported). r.number) (numbers.report_15_kept month [] (lit< tt))

first_two : List ℕ
first_two = end_to_end (lir ∷ removal ∷ [])

begun : Lent
begun = lent first_two here [] [] room (under_cx 3588 0)

met_0 : (reported begun area).number ≡ 0
unfolding begun first_two
met_0 = (numbers.report_0_whole begun area enough (lir ∷ removal ∷ []) (each.0, (each.1.0, tt)) refl).1

met_0_file : end_to_end (requests_of begun) ≡ first_two
unfolding begun
met_0_file = numbers.report_0_file begun area enough met_0

met_7 : BrokenOff (drop (stop_of file) file)
unfolding month
met_7 = numbers.report_7_breaks month area enough month_number

-- a header length under 20, and one past the file
under : BrokenOff (0x01 ∷ 0x00 ∷ 0x00 ∷ 0x13 ∷ [])
unfolding all
under = record { some = lit≤ tt; by = inr (inl (lit< tt)) }

past : BrokenOff (0x01 ∷ 0x00 ∷ 0x00 ∷ 0x14 ∷ [])
unfolding all
past = record { some = lit≤ tt; by = inr (inr (lit< tt)) }

-- ONE REQUEST

met_one : events_of alone ≡ counts 302 (Base 2001) 132 0 ∷ []
unfolding alone
met_one = numbers.report_one alone each.0 ∙ ap (λ (y : Lent). event_of y ∷ []) alone_only ∙ rw located_counts

met_one_ends : (reported alone area).number ≡ 0
unfolding alone
met_one_ends = numbers.report_one_ends alone each.0 area enough

met_one_decides : (reported alone area).table ≡ (serve alone).table
unfolding alone
met_one_decides =
    (numbers.report_one_decides alone each.0 area enough {r = call_word (serve alone).call} {s = word (reported alone area).number 0 0}
    (record { word_is = refl; table_is = refl; vectors_is = refl; buffer_is = refl })
    (record { word_is = refl; table_is = refl; vectors_is = refl; buffer_is = refl; area_is = refl })
    ).0

-- TWO FILES: the rest of the month goes on where the first two requests ended
rest : List ℕ
rest = end_to_end (lir ∷ strayed ∷ []) ++ scrap

met_both : requests_of (asking begun (begun.request ++ rest)) ≡ requests_of begun ++ requests_of (going_on begun area rest)
met_both = numbers.report_both begun rest area enough met_0

met_both_events : events_of (asking begun (begun.request ++ rest)) ≡ events_of begun ++ events_of (going_on begun area rest)
met_both_events = numbers.report_both_events begun rest area enough met_0

met_both_leaves : (reported (asking begun (begun.request ++ rest)) area).table ≡ (reported (going_on begun area rest) area).table
met_both_leaves = (numbers.report_both_leaves begun rest area enough met_0 area enough).1

met_both_words : word_in (reported (asking begun (begun.request ++ rest)) area).area 0
    ≡ (word_in (reported begun area).area 0 + word_in (reported (going_on begun area rest) area).area 0) % 2 ^ 64
met_both_words = numbers.report_both_words begun rest area enough met_0 area enough 0 (omega arith) (omega arith) (omega arith)

both_short : length (begun.request ++ rest) < 2 ^ 64
unfolding all begun first_two rest end_to_end
both_short = lit< tt

met_both_place : word_in (reported (asking begun (begun.request ++ rest)) area).area 1
    ≡ word_in (reported begun area).area 1 + word_in (reported (going_on begun area rest) area).area 1
met_both_place = numbers.report_both_place begun rest area enough met_0 area enough both_short

met_both_largest : word_in (reported (asking begun (begun.request ++ rest)) area).area 3
    ≡ max (word_in (reported begun area).area 3) (word_in (reported (going_on begun area rest) area).area 3)
met_both_largest = numbers.report_both_largest begun rest area enough met_0 area enough

-- WHAT STAYS
long_here : length here ≡ size_in here
long_here = sound_size_in here 0 1 sound_here

area_sound : check_area here 0 ≡ Ok 1
area_sound = check_exact here 0 long_here ∙ sound_here

met_sound : check_area (reported month area).table 0 ≡ Ok 1
unfolding month
met_sound = numbers.report_sound month area ∙ area_sound

met_kept : get_or (block_of (reported month area).table 1) 16 0 ≡ get_or (block_of here 1) 16 0
unfolding month
met_kept = numbers.report_kept month area 1 area_sound 1 16 (lit< tt) refl

-- over a block of zeros, a vector file of one byte, and with no buffer
unsound : Lent
unsound = lent file block [] [] room (under_cx 3588 0)

met_unsound : (reported unsound area).table ≡ block
unfolding all unsound check_area table_in size_in
met_unsound = (numbers.report_unsound unsound area 0 refl).0

spoilt : Lent
spoilt = lent file here [] (3 ∷ []) room (under_cx 3588 0)

met_spoilt : (reported spoilt area).vectors ≡ 3 ∷ []
unfolding all spoilt
met_spoilt = (numbers.report_unsound_vectors spoilt area 0 refl).1

cramped : Lent
cramped = lent file here [] [] [] (under_cx 3588 0)

met_small : (reported cramped area).buffer ≡ []
unfolding cramped
met_small = (numbers.report_small cramped area (lit< tt)).2

-- a peer of another edition: every request that is read is counted under 12
unheard : Lent
unheard = lent file here [] [] room (under_cx 6734 0)

met_peer : (reported unheard area).table ≡ here
unfolding unheard
met_peer = (numbers.report_peer unheard area refl).0

met_peer_counts : word_in (reported unheard area).area 16 ≡ 4
unfolding unheard month
met_peer_counts = numbers.report_peer_counts unheard area refl enough short ∙ ap length month_requests

-- the month's requests have one Vendor-Id each: its numbers are the same under RFC 6733
just_one : All (λ (p : List ℕ). OneVendor (body_of p)) (lir ∷ removal ∷ lir ∷ strayed ∷ [])
unfolding all one_vendor vendor_ids
just_one = (one_says (body_of lir) refl, (one_says (body_of removal) refl, (one_says (body_of lir) refl, (one_says (body_of strayed) refl, tt))))

met_one_vendor : reported (by_peer month 6733) area ≡ reported month area
unfolding month
met_one_vendor = numbers.report_one_vendor month area (rw month_requests just_one)

-- a question alone
met_idle : ((reported alone area).table ≡ here) × (altered_over alone (requests_of alone) ≡ 0)
unfolding alone all_idle number_of
met_idle = let i = numbers.report_idle alone area (rw met_one) in (i.0, i.2)

-- AN AREA LONGER THAN ITS TABLE: behind the table stand a block of zeros, which no table could have as a record, and a last piece. The report is the month's,
-- and they stay.
behind : List ℕ
behind = block ++ (1 ∷ 2 ∷ 3 ∷ [])

working : Lent
working = holding month (here ++ behind)

table_in_lem : table_in (here ++ behind) ≡ here
table_in_lem = read_front here behind long_here

working_sound : check_area (here ++ behind) 0 ≡ Ok 1
unfolding check_area
working_sound = ap (λ (t : List ℕ). check_table t 0) table_in_lem ∙ sound_here

past_table : drop (length (table_in (here ++ behind))) (here ++ behind) ≡ behind
past_table = drop_at here behind (length (table_in (here ++ behind))) (sym (ap length table_in_lem))

same_table : table_in (here ++ behind) ≡ table_in here
same_table = table_in_lem ∙ sym (in_all here (omega (arith, long_here)))

met_alike : ((reported working area).number ≡ 7) × ((reported working area).area ≡ (reported month area).area)
unfolding working month
met_alike =
    let s = numbers.report_alike month (here ++ behind) area same_table in
    (s.0 ∙ month_number, s.4)

met_alike_table : table_in (reported working area).table ≡ gone
unfolding working month
met_alike_table =
    (numbers.report_alike month (here ++ behind) area same_table).1 ∙ ap table_in month_table
    ∙ in_all gone (omega (arith, sound_size_in gone 0 1 sound_gone))

met_behind : drop (length (table_in (here ++ behind))) (reported working area).table ≡ behind
unfolding working month
met_behind = (numbers.report_behind working area).1 ∙ past_table

met_over_left : (reported working area).table ≡ (left_over working (requests_of working)).table
met_over_left = (numbers.report_over_left working area enough).0

-- the calls over the area are counted as the month's, and every byte that is not to change stays, of the block of zeros too
working_events : events_of working ≡ events_of month
unfolding working month
working_events =
    numbers.report_over working (requests_of month) ∙ ap (λ (t : List ℕ). row (holding month t) (requests_of month)) same_table
    ∙ sym (numbers.report_over month (requests_of month))

met_working_word : word_in (reported working area).area 3 ≡ 136
unfolding counting
met_working_word = numbers.report_word working area enough 3 (omega arith) (omega arith) ∙ rw (working_events, month_events)

met_working_sound : check_area (reported working area).table 0 ≡ Ok 1
unfolding working month
met_working_sound = numbers.report_sound working area ∙ working_sound

met_kept_past : get_or (block_of (reported working area).table 2) 16 0 ≡ get_or (block_of (here ++ behind) 2) 16 0
unfolding working month
met_kept_past = numbers.report_kept working area 1 working_sound 2 16 (lit< tt) refl

-- with a spoilt vector file the whole area stays
met_working_spoilt : (reported (lent file (here ++ behind) [] (3 ∷ []) room (under_cx 3588 0)) area).table ≡ here ++ behind
unfolding all
met_working_spoilt = (numbers.report_unsound_vectors (lent file (here ++ behind) [] (3 ∷ []) room (under_cx 3588 0)) area 0 refl).0
