-- Each theorem of a row has an instance: its hypotheses are met by a small row, computed.
use Rattle.std.specs.Prelude.{Ok}
use Rattle.octets.specs.Standard.{ℕ, zero, suc, ◌+◌, ◌*◌, ◌/◌, ◌≤◌, ◌<◌, List, [], ◌∷◌, ◌++◌, Bool, true, false, none, ◌≡◌, refl, sym, ap, ◌∙◌, ◌⊎◌, ◌≢◌}
use Rattle.octets.specs.Standard.{arith, length, get_or, take, drop, replicate, length-replicate, length-drop, le-ltb, lit≤, lit<}
use Rattle.octets.specs.Run.{over}
use Rattle.blocks.specs.Blocks.{block_of}
use Rattle.blocks.specs.Changed.{is_one}
use Rattle.blocks.proofs.Changed.{one_append}
use Rattle.table.specs.Area.{size_in, table_in, check_area}
use Rattle.table.proofs.Areas.{sound_size_in, check_exact}
use Rattle.diameter.specs.Put.{Piece, All, bytes_of}
use Rattle.counting.specs.Words.{long_bytes}
use Rattle.pen.specs.Bytes.{avp_bytes, vendor_bytes, number_bytes}
use Rattle.pen.specs.Groups.{vendor_application}
use Rattle.requests.specs.Request.{under_cx, dialect_of, cx}
use Rattle.refusals.specs.Early.{small_buffer}
use Rattle.refusals.specs.Trial.{any_holds}
use Rattle.calling.specs.Call.{Refused}
use Rattle.calling.specs.Lent.{Lent, lent, asking, table_only}
use Rattle.calling.specs.Serve.{Served, decision, serve}
use Rattle.calling.proofs.Areas.{only_sound}
use Rattle.ndushavire.specs.Word.{row_word}
use Rattle.ndushavire.specs.Reads.{number_in, value_in, call_number, Reads}
use Rattle.ndushavire.specs.Promise.{DecidePromise, RowPromise}
use Rattle.demands.specs.Call.{turned_away}
use Rattle.demands.specs.Frame.{succeeds}
use Rattle.demands.specs.Insertion.{message, request_of, Foreign, ending, keep, put, Longer, Newer, first_mark}
use Rattle.vectors_sent.specs.Sent.{sent_by, used_at}
use Rattle.vectors_sent.specs.Row.{sent_over}
use Rattle.vectors_sent.proofs.Sending.{unsent_stay}
use Rattle.reporting.specs.Pieces.{stop_of}
use Rattle.reporting.specs.Report.{requests_of, ended}
use Rattle.report_numbers.specs.File.{OneRequest, end_to_end, BrokenOff}
use Rattle.report_numbers.specs.Turns.{InTurn}
use Rattle.report_numbers.proofs.Cut.{one_piece}
use Rattle.report_numbers.proofs.Numbers.{report_0_whole}
use Rattle.row_of_calls.specs.Row.{Rowed, answer_length, alters, marks, next, rowed}
use Rattle.row_of_calls.specs.Word.{call_word}
use Rattle.worked_examples.proofs.Computed.{held, no_vectors}
use Rattle.worked_examples.proofs.Sample.{block}
use Rattle.report_example.proofs.Calls.{lir, removal, strayed, file, here, gone, each, sound_here, sound_gone, lending, comes}
use Rattle.report_example.proofs.Cards.{mar, fresh}
use Rattle.row_laws.specs.Reads.{row_in, ReadsRow, altered_in, marked_in}
use Rattle.row_laws.specs.Turns.{served_of, lent_after, lent_to, AsksAbout, words_by, answers_by, answers_long, written, going_on, words_left, joined, turns_of}
use Rattle.row_laws.proofs.Ends.{row_few, area_room}
use Rattle.row_laws.proofs.Ends as ends_of
use Rattle.row_laws.proofs.Rows as rows
use Rattle.row_example.proofs.Steps.{next_from}
use Rattle.row_example.proofs.Small.{found, removed, opens, found_long, found_served, removed_served, area, words, area_long}
use Rattle.row_example.proofs.Small.{words_long, month, month_is, alone}
use Rattle.row_example.proofs.Small.{found_alters, removed_alters, served_four, big, lending_row, full_is}
use Rattle.row_example.proofs.Dealt.{dealing, both, cards, cards_pieces, sent_served, sent_marks, cards_is}

-- THE ROW: the month's word is read back as 7, with records altered and no vector marked, and 4 requests
abbrev outcome : Rowed
outcome = rowed month words

promised : RowPromise month words (row_word outcome) outcome.table outcome.vectors outcome.answers outcome.words
promised = record { word_is = refl; table_is = refl; vectors_is = refl; answers_is = refl; words_is = refl }

met_unique : row_word outcome ≡ row_word outcome
met_unique = (rows.row_unique month words (row_word outcome) (row_word outcome) _ _ _ _ _ _ _ _ promised promised).0

met_said : (number_in (row_word outcome) ≡ 7) × (altered_in (row_word outcome) ≡ true) × (marked_in (row_word outcome) ≡ false) × (value_in (row_word outcome) ≡ 4)
met_said =
    let s : ReadsRow outcome (row_word outcome) = rows.row_said month words promised in (
      s.number ∙ ap (λ (r : Rowed). r.number) month_is,
      s.altered ∙ ap (λ (r : Rowed). r.altered) month_is,
      s.marked ∙ ap (λ (r : Rowed). r.marked) month_is,
      s.value ∙ ap (λ (r : Rowed). r.served) month_is,
    )

met_meant : outcome ≡ row_in (row_word outcome) outcome.table outcome.vectors outcome.answers outcome.words
met_meant = rows.row_meant month words promised

-- IN ITS PLACE: the removal is the second of the month's four
abbrev second : InTurn (served_of month words)
second = record { before = lir ∷ []; request = removal; after = lir ∷ strayed ∷ []; is = served_four }

big_left : 36864 ≤ length (drop 132 area)
big_left = simp length-drop (omega (arith, area_long))

after_found : lent_after month (lir ∷ []) ≡ lent file here [] [] (drop 132 area) (under_cx 3588 0)
unfolding lent_after
after_found = next_from month lir found 132 here [] found_long (found_served area big)

second_served : serve (lent_to month second) ≡ comes 116 gone (over removed (drop 132 area))
second_served = ap (λ (y : Lent). serve (asking y removal)) after_found ∙ removed_served (drop 132 area) big_left

decided : DecidePromise (lent_to month second) 116 gone [] (over removed (drop 132 area))
decided =
    record {
      word_is = ap (λ (s : Served). call_word s.call) (sym second_served);
      table_is = ap (λ (s : Served). s.table) (sym second_served);
      vectors_is = ap (λ (s : Served). s.vectors) (sym second_served);
      buffer_is = ap (λ (s : Served). s.buffer) (sym second_served);
    }

met_lent : (lent_to month second).buffer ≡ drop (length (answers_by month (lir ∷ []))) area
met_lent = (rows.row_lent month words second).0

met_where : length (answers_by month (lir ∷ [])) ≡ 132
unfolding words_by answers_long
met_where = rows.row_where month words second ∙ ap (λ (s : Served). answers_long (call_word s.call ∷ [])) (found_served area big)

met_word : take 8 (drop 8 (rowed month words).words) ≡ long_bytes 116
met_word = rows.row_word_lem month words second decided

met_answer : take (answer_length (serve (lent_to month second)).call) (drop (length (answers_by month (lir ∷ []))) (rowed month words).answers)
    ≡ take (answer_length (serve (lent_to month second)).call) (over removed (drop 132 area))
met_answer = rows.row_answer month words second decided

met_next : (lent_after month (lir ∷ removal ∷ [])).table ≡ gone
met_next = (rows.row_next month words second decided).0

-- WHERE IT ENDS: with room for two answers alone; more requests than may have a word; a whole file; and the 3 bytes
narrow : List ℕ
narrow = replicate 37000 9

narrow_long : length narrow ≡ 37000
unfolding narrow
narrow_long = length-replicate {A = ℕ} 37000 9

met_15 : (rowed (lending_row narrow) words).number ≡ 15
met_15 =
    ap (λ (r : Rowed). r.number) (full_is narrow words (omega (arith, narrow_long)) (omega (arith, narrow_long)) (omega (arith, words_long)))

met_15_full : (length (drop (written (lending_row narrow) words) narrow) < 36864)
    ⊎ ((length words < 8 * (rowed (lending_row narrow) words).served + 8) ⊎ ((rowed (lending_row narrow) words).served ≡ 4294967295))
met_15_full = rows.row_15_full (lending_row narrow) words met_15

all_same : (n : ℕ) → All OneRequest (replicate n lir)
all_same zero = tt
all_same (suc n) = (each.0, all_same n)

abbrev many : ℕ → Lent
many n = lending (end_to_end (replicate n lir)) here area

met_most : (n : ℕ) → 4294967295 < n → (rowed (many n) words).number ≡ 15
met_most n h =
    let e : requests_of (many n) ≡ replicate n lir =
    (report_0_whole (many n) (ends_of.area (many n)) (area_room (many n)) (replicate n lir) (all_same n) refl).0 in
    rows.row_most (many n) words (omega (arith, h, ap length e, length-replicate n lir))

alone_is : (rowed alone words).number ≡ 0
alone_is = ap (λ (r : Rowed). r.number) (rows.row_one alone each.0 words big (omega (arith, words_long)))

met_0 : end_to_end (served_of alone words) ≡ lir
met_0 = (rows.row_0 alone words alone_is).1

met_7 : BrokenOff (drop (stop_of file) file)
met_7 = (rows.row_7 month words (ap (λ (r : Rowed). r.number) month_is)).1

met_room : (rowed alone words).number ≡ ended lir
met_room =
    let n : length (requests_of alone) ≡ 1 = ap length (one_piece lir each.0) in
    (rows.row_room alone words (omega (arith, n, area_long)) (omega (arith, n, words_long)) (omega (arith, n))).1

met_had_room : 36864 ≤ length (lent_to month second).buffer
met_had_room = (rows.row_had_room month words second).0

-- WHAT ITS WORD SAYS: the month altered a record and marked no vector, one LIR altered none, and the cards marked one
met_altered : (p : InTurn (served_of month words)) × (alters (lent_to month p) ≡ true)
met_altered = rows.row_altered month words (ap (λ (r : Rowed). r.altered) month_is)

met_altered_by : (rowed month words).altered ≡ true
met_altered_by =
    rows.row_altered_by month words second (ap (λ (y : Lent). alters (asking y removal)) after_found ∙ removed_alters (drop 132 area) big_left)

met_unmarked : (rowed month words).vectors ≡ []
met_unmarked = rows.row_unmarked month words (ap (λ (r : Rowed). r.marked) month_is)

met_unaltered : (rowed alone words).table ≡ here
met_unaltered =
    rows.row_unaltered alone words
    (ap (λ (r : Rowed). r.altered) (rows.row_one alone each.0 words big (omega (arith, words_long))) ∙ found_alters area big)

met_marked : (p : InTurn (served_of (cards area) words)) × (marks (lent_to (cards area) p) ≡ true)
met_marked = rows.row_marked (cards area) words (ap (λ (r : Rowed). r.marked) cards_is)

-- over a block of zeros, and over a vector file of one byte
unsound : Lent
unsound = lent file block [] [] area (under_cx 3588 0)

met_unsound : (rowed unsound words).table ≡ block
unfolding opens unsound check_area table_in size_in
met_unsound = (rows.row_unsound unsound words 0 refl).0

spoilt : Lent
spoilt = lent file here [] (3 ∷ []) area (under_cx 3588 0)

met_unsound_vectors : (rowed spoilt words).vectors ≡ 3 ∷ []
unfolding opens spoilt
met_unsound_vectors = (rows.row_unsound_vectors spoilt words 0 refl).1

-- NO VECTOR TWICE: the one of the cards was unused, and is used
served_cards : served_of (cards area) words ≡ both
served_cards = ap (λ (r : Rowed). take r.served (requests_of (cards area))) cards_is ∙ ap (take 2) cards_pieces

met_marked_by : (rowed (cards area) words).marked ≡ true
unfolding lent_after
met_marked_by =
    rows.row_marked_by (cards area) words (record { before = []; request = mar; after = mar ∷ []; is = served_cards }) (sent_marks area big)

first_sent : is_one (sent_by (table_only (asking (cards area) mar))) 0 ≡ true
unfolding dealing
first_sent = go (is_one (sent_by (table_only (asking (cards area) mar))) 0) refl
  where
    go : (b : Bool) → is_one (sent_by (table_only (asking (cards area) mar))) 0 ≡ b → b ≡ true
    go true e = refl
    go false e =
        let stays : block_of (serve (asking (cards area) mar)).vectors 0 ≡ block_of fresh 0 = unsent_stay (asking (cards area) mar) 0 e in
        let n : ◌≡◌ {A = ℕ} 1 0 =
        ap (λ (s : Served). get_or (block_of s.vectors 0) 1 0) (sym (sent_served area big)) ∙ ap (λ (b : List ℕ). get_or b 1 0) stays in
        absurd (omega arith)

met_sent_used : (used_at fresh 0 ≡ 0) × (used_at (rowed (cards area) words).vectors 0 ≡ 1)
unfolding sent_over turns_of next
met_sent_used =
    let rest : List ℕ = sent_over (serve (asking (cards area) mar)).vectors (turns_of (next (cards area) mar) (mar ∷ [])) in
    let e : is_one (sent_by (table_only (asking (cards area) mar)) ++ rest) 0 ≡ true =
    one_append (sent_by (table_only (asking (cards area) mar))) rest 0 ∙ rw first_sent in
    rows.row_sent_used (cards area) words 0 (ap (λ (ps : List (List ℕ)). is_one (sent_over fresh (turns_of (cards area) ps)) 0) served_cards ∙ e)

-- THE DEMANDS, of a row of one request: it is lent what the row is
only : (x : Lent) → OneRequest x.request → 36864 ≤ length x.buffer → served_of x words ≡ x.request ∷ []
only x one room =
    ap (λ (r : Rowed). take r.served (requests_of x)) (rows.row_one x one words room (omega (arith, words_long))) ∙ ap (take 1) (one_piece x.request one)

abbrev sole : (x : Lent) → OneRequest x.request → 36864 ≤ length x.buffer → InTurn (served_of x words)
sole x one room = record { before = []; request = x.request; after = []; is = only x one room }

-- .. which is refused by 12 of an unknown edition, and never by 1
unheard : Lent
unheard = lent lir here [] [] area (under_cx 6734 0)

met_peer : (serve unheard).call ≡ Refused 12 0
unfolding unheard lent_after
met_peer = rows.row_demand_1_peer unheard words (sole unheard each.0 big) refl

met_number : call_number (serve alone).call ≢ 1
unfolding lent_after
met_number = (rows.row_demand_1_number alone words (sole alone each.0 big)).1

met_reads : Reads (serve alone).call (call_word (serve alone).call)
unfolding lent_after
met_reads = rows.row_demand_1 alone words (sole alone each.0 big)

-- .. which is refused by 4, or answered by X5003, and leaves the table
roomy : small_buffer area ≡ false
roomy = le-ltb (length area) 36864 big

lost : Lent
lost = lending strayed gone area

lost_away : turned_away (table_only lost) ≡ true
unfolding opens lost any_holds
lost_away = ap turned_away (only_sound lost 1 sound_gone) ∙ held lost roomy sound_gone no_vectors refl

met_refusal : (lent_after lost (strayed ∷ [])).table ≡ gone
unfolding lost lent_after
met_refusal = (rows.row_demand_2_refusal lost words (sole lost each.1.1.1.0 big) lost_away).0

gone_sound : check_area gone 0 ≡ Ok 1
gone_sound = check_exact gone 0 (sound_size_in gone 0 1 sound_gone) ∙ sound_gone

missing : Lent
missing = lending lir gone area

missing_result : succeeds (decision (table_only missing) 1).given.verdict.result ≡ false
unfolding opens missing
missing_result = ap (λ (y : Lent). succeeds (decision y 1).given.verdict.result) (only_sound missing 1 sound_gone)

met_failure : (lent_after missing (lir ∷ [])).table ≡ gone
unfolding missing lent_after
met_failure = (rows.row_demand_2_failure missing words (sole missing each.0 big) 1 gone_sound missing_result).0

-- .. and into which an AVP of an unknown kind is put, of 8 bytes and without M
cut_at : ℕ → List ℕ → Piece
cut_at n bytes = record { avp = take n bytes; pad = drop n bytes }

session : Piece
session = cut_at 9 (avp_bytes 263 (0x73 ∷ []))

others : List Piece
others =
    cut_at 32 (vendor_application cx) ∷ cut_at 12 (number_bytes 277 1) ∷ cut_at 9 (avp_bytes 264 (0x63 ∷ [])) ∷ cut_at 9 (avp_bytes 296 (0x72 ∷ []))
    ∷ cut_at 9 (avp_bytes 283 (0x72 ∷ [])) ∷ cut_at 13 (vendor_bytes 601 (0x61 ∷ [])) ∷ []

plain : Piece
plain = record { avp = 0 ∷ 0 ∷ 3 ∷ 231 ∷ 0 ∷ 0 ∷ 0 ∷ 8 ∷ []; pad = [] }

head : List ℕ
head = take 20 lir

longer : List ℕ
longer = request_of head (session ∷ plain ∷ others) []

strange : Foreign (dialect_of (under_cx 3588 0) head) plain
unfolding opens plain head
strange = record { whole = record { right = refl; exact = refl; filled = refl }; plain = refl; stranger = refl }

put_in : Longer (under_cx 3588 0) lir longer
unfolding opens cut_at session others plain head longer message bytes_of
put_in =
    record {
      cut = record {
        head = head;
        first = session;
        rest = others;
        tail = [];
        twenty = refl;
        whole = (
          record { right = refl; exact = refl; filled = refl },
          (
            record { right = refl; exact = refl; filled = refl },
            (
              record { right = refl; exact = refl; filled = refl },
              (
                record { right = refl; exact = refl; filled = refl },
                (
                  record { right = refl; exact = refl; filled = refl },
                  (record { right = refl; exact = refl; filled = refl }, (record { right = refl; exact = refl; filled = refl }, tt)),
                ),
              ),
            ),
          ),
        );
        fours = refl;
        stops = refl;
        joined = refl;
      };
      row = plain ∷ others;
      inserted = put plain strange (keep _ (keep _ (keep _ (keep _ (keep _ (keep _ ending))))));
      bytes = refl;
      most = lit≤ tt;
    }

quiet : first_mark put_in.inserted ≡ none
unfolding opens plain put_in first_mark others
quiet = refl

met_3 : Newer alone longer put_in
unfolding lent_after
met_3 = rows.row_demand_3 alone words (sole alone each.0 big) longer put_in

met_3_next : lent_after alone (longer ∷ []) ≡ lent_after alone (lir ∷ [])
unfolding lent_after
met_3_next = rows.row_demand_3_next alone words (sole alone each.0 big) longer put_in quiet

-- DEMAND 2 over the month: the record of `a` is changed, and one of the requests asked about it
here_sound : check_area here 0 ≡ Ok 1
here_sound = check_exact here 0 (sound_size_in here 0 1 sound_here) ∙ sound_here

changed : block_of (rowed month words).table 1 ≢ block_of here 1
unfolding opens
changed e =
    let n : ◌≡◌ {A = ℕ} 0 1 = ap (λ (r : Rowed). get_or (block_of r.table 1) 8 0) (sym month_is) ∙ ap (λ (b : List ℕ). get_or b 8 0) e in
    omega arith

met_asked : (p : InTurn (served_of month words)) × AsksAbout month 1 1 p
met_asked = (rows.row_demand_2_asked month words 1 here_sound 1 changed).1

met_sound : check_area (rowed month words).table 0 ≡ Ok 1
met_sound = rows.row_demand_2_sound month words 1 here_sound

met_header : block_of (rowed month words).table 0 ≡ block_of here 0
met_header = rows.row_demand_2_header month words 1 here_sound

met_bytes : get_or (block_of (rowed month words).table 1) 16 0 ≡ get_or (block_of here 1) 16 0
met_bytes = rows.row_demand_2_bytes month words 1 here_sound 1 16 (lit< tt) refl

met_bits : get_or (block_of (rowed month words).table 1) 9 0 / 2 ≡ get_or (block_of here 1) 9 0 / 2
met_bits = rows.row_demand_2_bits month words 1 here_sound 1

-- ONE REQUEST
met_one : (rowed alone words).answers ≡ over found area
met_one =
    ap (λ (r : Rowed). r.answers) (rows.row_one alone each.0 words big (omega (arith, words_long)))
    ∙ ap (λ (s : Served). s.buffer) (found_served area big)

met_one_decides : (rowed alone words).words ≡ long_bytes (call_word (serve alone).call) ++ drop 8 words
met_one_decides =
    (rows.row_one_decides alone each.0 words big (omega (arith, words_long)) {r = call_word (serve alone).call} {s = row_word (rowed alone words)}
    (record { word_is = refl; table_is = refl; vectors_is = refl; buffer_is = refl })
    (record { word_is = refl; table_is = refl; vectors_is = refl; answers_is = refl; words_is = refl })
    ).3

-- TWO ROWS: the removal behind the LIR
few : (rowed alone words).served + (rowed (going_on alone words removal) (words_left alone words)).served ≤ 4294967295
few =
    let m : length (requests_of (going_on alone words removal)) ≡ 1 = ap length (one_piece removal each.1.0) in
    let n : (rowed alone words).served ≡ 1 = ap (λ (r : Rowed). r.served) (rows.row_one alone each.0 words big (omega (arith, words_long))) in
    omega (arith, row_few (going_on alone words removal) (words_left alone words), m, n)

met_joined : rowed (asking alone (lir ++ removal)) words ≡ joined alone words (rowed (going_on alone words removal) (words_left alone words))
met_joined = rows.row_joined alone words removal alone_is few

met_joined_only : (rowed alone words).served + (rowed (going_on alone words removal) (words_left alone words)).served ≤ 4294967295
met_joined_only = rows.row_joined_only alone words removal met_joined
