-- The month's numbers, as theorems about `reported`: the number, the table in its working area, the vectors, the buffer and the area of a report, for anything
-- lent. The file of requests is lent as the request. The table is lent at the front of a working area (`x.table`), which may be longer (02 [8]): `table_in` is
-- the table there, by the count in block 0, and `table_only x` is what is lent, with that table alone.
-- What the other words below mean is in reporting/specs/Row (`serve` over the requests in turn), specs/File (a file of requests), specs/Turns (the calls) and
-- specs/Area (the words read back).
use Rattle.std.specs.Prelude.{Ok, Err}
use Rattle.octets.specs.Standard.{ℕ, ◌+◌, ◌*◌, ◌%◌, ◌^◌, ◌≤◌, ◌<◌, max, List, [], ◌∷◌, ◌++◌, true, false, ◌≡◌, refl, sym, ap, ◌∙◌, ◌⊎◌, inl, inr, ◌≢◌}
use Rattle.octets.specs.Standard.{arith, length, get_or, take, drop, eqb, ltb}
use Rattle.blocks.specs.Blocks.{block_of}
use Rattle.table.specs.Area.{table_in, check_area}
use Rattle.vectors.specs.VectorFile.{check_vectors}
use Rattle.rewrite.specs.Keeps.{alterable}
use Rattle.reading.specs.declared.Outcome.{Outcome}
use Rattle.diameter.specs.Put.{All}
use Rattle.counting.specs.Results.{column_of}
use Rattle.counting.specs.Event.{Event}
use Rattle.counting.specs.Counting.{Listed}
use Rattle.counting.specs.Counted.{how_many, number_at, word_at}
use Rattle.counting.specs.Layout.{read_word, stop_word, altered_word, largest_word, answered_word, refusal_word, cell_word}
use Rattle.counting.specs.Words.{long_bytes}
use Rattle.diameter.specs.Message.{body_of}
use Rattle.reading.specs.Groups.{rfc3588, rfc6733}
use Rattle.demands.specs.Peers.{by_peer, OneVendor}
use Rattle.calling.specs.Lent.{Lent, asking, holding, table_only}
use Rattle.refusals.specs.Early.{unknown_peer}
use Rattle.calling.specs.Serve.{serve, result_of}
use Rattle.calling.proofs.Areas.{check_in_lem}
use Rattle.ndushavire.specs.Reads.{number_in, place_in, value_in}
use Rattle.ndushavire.specs.Promise.{DecidePromise, ReportPromise}
use Rattle.reporting.specs.Pieces.{stop_of}
use Rattle.reporting.specs.Row.{event_of, row, row_over, left_over}
use Rattle.reporting.specs.Report.{requests_of, reported}
use Rattle.reporting.proofs.Areas as areas
use Rattle.report_numbers.specs.Area.{word_in, rows_in, refusals_in}
use Rattle.report_numbers.specs.File.{OneRequest, end_to_end, BrokenOff}
use Rattle.report_numbers.specs.Turns.{events_of, words_over, InTurn, call_at, refused_by, answered_in, call_length, altered_over, all_idle, going_on}
use Rattle.report_numbers.proofs.Area as area
use Rattle.report_numbers.proofs.Cells as cells
use Rattle.report_numbers.proofs.Columns as columns
use Rattle.report_numbers.proofs.Cut as cut
use Rattle.report_numbers.proofs.Ends as ends
use Rattle.report_numbers.proofs.Firm as firm
use Rattle.report_numbers.proofs.Joined as join
use Rattle.report_numbers.proofs.Kept as kept
use Rattle.report_numbers.proofs.Over as over
use Rattle.report_numbers.proofs.Peers.{reports_same}

-- THE REPORT. Any two outcomes that meet the promise are one: the word, the table, the vectors, the buffer and the area.
pub report_unique : (x : Lent) (a : List ℕ) (r s : ℕ) (t u v w o q b c : List ℕ) → ReportPromise x a r t v o b → ReportPromise x a s u w q c
    → (r ≡ s) × (t ≡ u) × (v ≡ w) × (o ≡ q) × (b ≡ c)
report_unique = firm.report_one

-- What the exported call is promised to return and to leave is `reported`: the number that its word says, the area with the table, the vectors, the buffer and
-- the report's area; bits 0 to 47 of the word are 0. So each theorem below is one about it.
pub report_meant : (x : Lent) (a : List ℕ) {r : ℕ} {t' v' o' a' : List ℕ} → ReportPromise x a r t' v' o' a'
    → (reported x a ≡ record { number = number_in r; table = t'; vectors = v'; buffer = o'; area = a' }) × (place_in r ≡ 0) × (value_in r ≡ 0)
report_meant x a p = (firm.report_is x a p, (firm.report_besides x a p).0, (firm.report_besides x a p).1)

-- It is `serve` over the requests in turn, the table's area, the vectors and the buffer carried along, and leaves what these calls leave; a request is counted
-- as it is over the table alone (`row`).
pub report_over_left : (x : Lent) (a : List ℕ) → 1160 ≤ length a
    → ((reported x a).table ≡ (left_over x (requests_of x)).table) × ((reported x a).vectors ≡ (left_over x (requests_of x)).vectors)
    × ((reported x a).buffer ≡ (left_over x (requests_of x)).buffer)
report_over_left = areas.reported_left

pub report_over : (x : Lent) (ps : List (List ℕ)) → row_over x ps ≡ row (table_only x) ps
report_over = areas.row_over_lem

-- Bytes past the table stay, and do not matter: two areas with the same table at the front get the same report (taking/proofs/Taking says which have, among
-- them the area after a take-over and the new table alone).
pub report_behind : (x : Lent) (a : List ℕ) → (length (reported x a).table ≡ length x.table)
    × (drop (length (table_in x.table)) (reported x a).table ≡ drop (length (table_in x.table)) x.table)
report_behind x a = (areas.reported_length x a, areas.reported_rest x a)

pub report_alike : (x : Lent) (other a : List ℕ) → table_in other ≡ table_in x.table
    → ((reported (holding x other) a).number ≡ (reported x a).number) × (table_in (reported (holding x other) a).table ≡ table_in (reported x a).table)
    × ((reported (holding x other) a).vectors ≡ (reported x a).vectors) × ((reported (holding x other) a).buffer ≡ (reported x a).buffer)
    × ((reported (holding x other) a).area ≡ (reported x a).area)
report_alike = areas.reported_alike

-- "A REPORT OVER A FILE OF MANY REQUESTS LAID END TO END": the requests are the file up to the byte where reading stops, and each of them is one request by
-- the length in its header. What is left there is no request.
module _ (x : Lent) where
  pub report_file : end_to_end (requests_of x) ≡ take (stop_of x.request) x.request
  report_file = cut.pieces_end x.request

  pub report_each : All OneRequest (requests_of x)
  report_each = cut.pieces_one x.request

  pub report_within : stop_of x.request ≤ length x.request
  report_within = cut.stop_within x.request

  -- "The numbers are those of the definitions run over the requests in turn, table and vectors carried along": a request in its place is counted as the call
  -- that `serve` makes of it over what those before it left.
  pub report_event : (p : InTurn (requests_of x))
      → events_of x ≡ row_over x p.before ++ (event_of (table_only (call_at x p)) ∷ row_over (left_over x (p.before ++ (p.request ∷ []))) p.after)
  report_event = over.event_at x (requests_of x)

-- THE WORDS, of an area that has room for them.
module _ (x : Lent) (a : List ℕ) (room : 1160 ≤ length a) where
  -- Each is written as 8 bytes, the highest first; bytes past the 1,160 stay, and so does the area's length.
  pub report_bytes : (i : ℕ) → i < 145 → take 8 (drop (8 * i) (reported x a).area) ≡ long_bytes (get_or (words_over x) i 0)
  report_bytes i h = area.report_bytes (table_only x) a room i h ∙ ap (λ (ws : List ℕ). long_bytes (get_or ws i 0)) (sym (over.words_over_lem x))

  pub report_past : drop 1160 (reported x a).area ≡ drop 1160 a
  report_past = area.report_past (table_only x) a room

  pub report_length : length (reported x a).area ≡ length a
  report_length = area.report_length (table_only x) a

  -- Word 1 is the byte where reading stopped, and every other counts over the row of `serve`'s outcomes.
  pub report_place : length x.request < 2 ^ 64 → word_in (reported x a).area stop_word ≡ stop_of x.request
  report_place = area.report_place (table_only x) a room

  pub report_word : (i : ℕ) → i < 145 → i ≢ stop_word → word_in (reported x a).area i ≡ word_at (events_of x) i
  report_word i h n = area.report_word (table_only x) a room i h n ∙ ap (λ (es : List Event). word_at es i) (sym (over.events_over x))

  -- "Counts of 64 bits": there are fewer requests than bytes, so of a file under 2^64 bytes a count is the number itself.
  pub report_few : 20 * length (requests_of x) ≤ length x.request
  report_few = cut.few_pieces x.request

  module _ (short : length x.request < 2 ^ 64) where
    pub report_count : (i : ℕ) → i < 145 → i ≢ stop_word → i ≢ altered_word → i ≢ largest_word → word_in (reported x a).area i ≡ number_at (events_of x) i
    report_count i h n m k = area.report_exact (table_only x) a room short i h n m k ∙ ap (λ (es : List Event). number_at es i) (sym (over.events_over x))

    pub report_read : word_in (reported x a).area read_word ≡ length (requests_of x)
    report_read = area.report_read (table_only x) a room short

    -- "for each refusal, how many", and "for each command (300 to 303, the rest as one) and each result, B and X apart, how many".
    pub report_refused : (n : ℕ) → 1 ≤ n → n ≤ 15 → word_in (reported x a).area (refusal_word n) ≡ how_many (refused_by n) (events_of x)
    report_refused n l h = area.refused_word (table_only x) a room short n l h ∙ ap (how_many (refused_by n)) (sym (over.events_over x))

    pub report_answered : (r c : ℕ) → r ≤ 4 → c < 25 → word_in (reported x a).area (cell_word r c) ≡ how_many (answered_in r c) (events_of x)
    report_answered r c h l = area.answered_word_lem (table_only x) a room short r c h l ∙ ap (how_many (answered_in r c)) (sym (over.events_over x))

    -- "THE ROW TOTALS ADD UP TO THE REQUESTS READ": the five rows and the refusals 1 to 15; the rows alone are the requests answered.
    pub report_totals : rows_in (reported x a).area + refusals_in (reported x a).area ≡ word_in (reported x a).area read_word
    report_totals = area.report_totals (table_only x) a room short

    pub report_rows : rows_in (reported x a).area ≡ word_in (reported x a).area answered_word
    report_rows = area.report_rows (table_only x) a room short

  -- Column B5012 of the rows 300 and 302 is 0 in every report: 02 [7] has shown that no UAR and no LIR comes to it.
  pub report_unable : (word_in (reported x a).area (cell_word 0 11) ≡ 0) × (word_in (reported x a).area (cell_word 2 11) ≡ 0)
  report_unable = (columns.unable_word 0 (inl refl) (table_only x) a room, columns.unable_word 2 (inr refl) (table_only x) a room)

  -- "RECORDS ALTERED, ONCE PER REQUEST": the sum over the calls of how many records have other bytes after each; its remainder by 2^64, which is the sum
  -- itself of a file under 2^56 bytes.
  pub report_altered : word_in (reported x a).area altered_word ≡ altered_over x (requests_of x) % 2 ^ 64
  report_altered = area.report_altered (table_only x) a room ∙ ap (λ (n : ℕ). n % 2 ^ 64) (sym (over.altered_over_lem x (requests_of x)))

  pub report_altered_exact : length x.request < 2 ^ 56 → word_in (reported x a).area altered_word ≡ altered_over x (requests_of x)
  report_altered_exact l = area.report_altered_exact (table_only x) a room l ∙ sym (over.altered_over_lem x (requests_of x))

  -- "AND THE LARGEST ANSWER": none is longer, and it is one of them, or 0.
  pub report_largest : (p : InTurn (requests_of x)) → call_length (serve (call_at x p)).call ≤ word_in (reported x a).area largest_word
  report_largest p = omega (arith, over.length_over x p, area.largest_word_lem (table_only x) a room p)

  pub report_largest_one : (word_in (reported x a).area largest_word ≡ 0)
      ⊎ ((p : InTurn (requests_of x)) × (call_length (serve (call_at x p)).call ≡ word_in (reported x a).area largest_word))
  report_largest_one = over.over_largest_one x a room

-- "each result, B and X apart": the result of every call has a column, and two results have two.
pub report_column : (x : Lent) → Listed (result_of (table_only x))
report_column x = columns.result_listed (table_only x)

pub report_own_column : (x y : Lent) → column_of (result_of (table_only x)) ≡ column_of (result_of (table_only y))
    → result_of (table_only x) ≡ result_of (table_only y)
report_own_column x y = columns.column_own (table_only x) (table_only y)

-- No two results that have a column have the same.
pub report_columns : (o p : Outcome) → Listed o → Listed p → column_of o ≡ column_of p → o ≡ p
report_columns = cells.columns_apart

-- WHERE IT ENDS. By 15 exactly if the area has no room for the words, and then all is as it came.
module _ (x : Lent) (a : List ℕ) where
  pub report_15 : eqb (reported x a).number 15 ≡ ltb (length a) 1160
  report_15 = ends.fifteen (table_only x) a

  pub report_15_kept : length a < 1160 → reported x a ≡ record { number = 15; table = x.table; vectors = x.vectors; buffer = x.buffer; area = a }
  report_15_kept = over.over_short x a

  module _ (room : 1160 ≤ length a) where
    -- By 0 exactly if the requests are the whole file: reading stops at its end.
    pub report_0 : eqb (reported x a).number 0 ≡ eqb (stop_of x.request) (length x.request)
    report_0 = ends.zero_exactly (table_only x) a room

    pub report_0_file : (reported x a).number ≡ 0 → end_to_end (requests_of x) ≡ x.request
    report_0_file = ends.zero_file (table_only x) a room

    pub report_0_whole : (ps : List (List ℕ)) → All OneRequest ps → x.request ≡ end_to_end ps → (requests_of x ≡ ps) × ((reported x a).number ≡ 0)
    report_0_whole = ends.requests_zero (table_only x) a room

    -- "1 to 3 bytes left, or a header length under 20 or past the file, end the report with the place": by 7 exactly if bytes are left where reading stops,
    -- and there one of the three holds ..
    pub report_7 : eqb (reported x a).number 7 ≡ ltb (stop_of x.request) (length x.request)
    report_7 = ends.seven_exactly (table_only x) a room

    pub report_7_breaks : (reported x a).number ≡ 7 → BrokenOff (drop (stop_of x.request) x.request)
    report_7_breaks = ends.seven_breaks (table_only x) a room

    -- .. and requests laid end to end with such bytes behind them are read up to these, and no further.
    pub report_7_broken : (ps : List (List ℕ)) → All OneRequest ps → (rest : List ℕ) → x.request ≡ end_to_end ps ++ rest → BrokenOff rest
        → (requests_of x ≡ ps) × (stop_of x.request ≡ length (end_to_end ps)) × ((reported x a).number ≡ 7)
    report_7_broken = ends.breaks_seven (table_only x) a room

-- ONE REQUEST is counted as the one call that it is, and the area of the table, the vectors and the buffer are as that call leaves them.
module _ (x : Lent) (one : OneRequest x.request) where
  pub report_one : events_of x ≡ event_of (table_only x) ∷ []
  report_one = over.events_over x ∙ join.one_event (table_only x) one

  module _ (a : List ℕ) (room : 1160 ≤ length a) where
    pub report_one_ends : (reported x a).number ≡ 0
    report_one_ends = join.one_zero (table_only x) one a room

    pub report_one_decides : {r s : ℕ} {t u v w o q b : List ℕ} → DecidePromise x r t v o → ReportPromise x a s u w q b → (u ≡ t) × (w ≡ v) × (q ≡ o)
    report_one_decides d p = join.one_decides x one a room d p

-- TWO FILES END TO END, where the first is used up: the requests are those of the two, and a report over both is the second going on where the first ended.
module _ (x : Lent) (more a : List ℕ) (room : 1160 ≤ length a) (whole : (reported x a).number ≡ 0) where
  pub report_both : requests_of (asking x (x.request ++ more)) ≡ requests_of x ++ requests_of (going_on x a more)
  report_both = join.two_requests (table_only x) more a room whole

  pub report_both_events : events_of (asking x (x.request ++ more)) ≡ events_of x ++ events_of (going_on x a more)
  report_both_events = over.both_events x more a room whole

  module _ (b : List ℕ) (space : 1160 ≤ length b) where
    pub report_both_leaves : ((reported (asking x (x.request ++ more)) a).number ≡ (reported (going_on x a more) b).number)
        × ((reported (asking x (x.request ++ more)) a).table ≡ (reported (going_on x a more) b).table)
        × ((reported (asking x (x.request ++ more)) a).vectors ≡ (reported (going_on x a more) b).vectors)
        × ((reported (asking x (x.request ++ more)) a).buffer ≡ (reported (going_on x a more) b).buffer)
    report_both_leaves = over.both_leave x more a room whole b space

    -- The counts add up, and so do the places; the largest answer is the larger of the two.
    pub report_both_words : (i : ℕ) → i < 145 → i ≢ stop_word → i ≢ largest_word
        → word_in (reported (asking x (x.request ++ more)) a).area i
        ≡ (word_in (reported x a).area i + word_in (reported (going_on x a more) b).area i) % 2 ^ 64
    report_both_words = over.both_words x more a room whole b space

    pub report_both_place : length (x.request ++ more) < 2 ^ 64
        → word_in (reported (asking x (x.request ++ more)) a).area stop_word
        ≡ word_in (reported x a).area stop_word + word_in (reported (going_on x a more) b).area stop_word
    report_both_place = over.both_place x more a room whole b space

    pub report_both_largest : word_in (reported (asking x (x.request ++ more)) a).area largest_word
        ≡ max (word_in (reported x a).area largest_word) (word_in (reported (going_on x a more) b).area largest_word)
    report_both_largest = over.both_largest x more a room whole b space

-- WHAT STAYS. The checks say of the table at the front of its area and of the vector file what they said before: a sound one stays sound, with as many records
-- or blocks.
module _ (x : Lent) (a : List ℕ) where
  pub report_sound : check_area (reported x a).table (length x.profile) ≡ check_area x.table (length x.profile)
  report_sound = over.over_checked x a

  pub report_vectors : check_vectors (reported x a).vectors ≡ check_vectors x.vectors
  report_vectors = kept.report_vectors (table_only x) a

  -- In an area with a sound table at its front only state, pending, server name and check word of records change, in every block of it (that those past the
  -- count stay whole says `report_behind`).
  pub report_kept : (count : ℕ) → check_area x.table (length x.profile) ≡ Ok count → (k i : ℕ) → i < 512 → alterable i ≡ false
      → get_or (block_of (reported x a).table k) i 0 ≡ get_or (block_of x.table k) i 0
  report_kept = over.over_bytes x a

  -- Over an unsound table or an unsound vector file, or with a short buffer, every request is refused, and the whole area, the vectors and the buffer are left
  -- as they came.
  pub report_unsound : (k : ℕ) → check_area x.table (length x.profile) ≡ Err k
      → ((reported x a).table ≡ x.table) × ((reported x a).vectors ≡ x.vectors) × ((reported x a).buffer ≡ x.buffer)
  report_unsound k e = over.over_refused x a (kept.table_refused (table_only x) k (sym (check_in_lem x) ∙ e))

  pub report_unsound_vectors : (k : ℕ) → check_vectors x.vectors ≡ Err k
      → ((reported x a).table ≡ x.table) × ((reported x a).vectors ≡ x.vectors) × ((reported x a).buffer ≡ x.buffer)
  report_unsound_vectors k e = over.over_refused x a (kept.vectors_refused (table_only x) k e)

  pub report_small : length x.buffer < 36864
      → ((reported x a).table ≡ x.table) × ((reported x a).vectors ≡ x.vectors) × ((reported x a).buffer ≡ x.buffer)
  report_small h = over.over_refused x a (kept.short_refused (table_only x) h)

  -- "a peer edition other than the two is number 12, before 1": every request read is counted under 12, the report itself is not refused, and all is left as
  -- it came.
  pub report_peer : unknown_peer x.terms ≡ true
      → ((reported x a).table ≡ x.table) × ((reported x a).vectors ≡ x.vectors) × ((reported x a).buffer ≡ x.buffer)
  report_peer e = over.over_refused x a (kept.peer_refused (table_only x) e)

  pub report_peer_counts : unknown_peer x.terms ≡ true → 1160 ≤ length a → length x.request < 2 ^ 64
      → word_in (reported x a).area (refusal_word 12) ≡ length (requests_of x)
  report_peer_counts e room short =
      report_refused x a room short 12 (omega arith) (omega arith) ∙ ap (how_many (refused_by 12)) (report_over x (requests_of x))
      ∙ kept.peer_counts (table_only x) e (requests_of x)

  -- "A message with just one is treated alike under both": so is a month of such messages. Its number, numbers, area, vectors and buffer are the same.
  pub report_one_vendor : All (λ (p : List ℕ). OneVendor (body_of p)) (requests_of x) → reported (by_peer x rfc6733) a ≡ reported (by_peer x rfc3588) a
  report_one_vendor = reports_same x a

  -- Where every request is refused, or answered by an error, or neither a SAR nor a MAR, no byte of the area and no vector is altered.
  pub report_idle : all_idle (events_of x) ≡ true
      → ((reported x a).table ≡ x.table) × ((reported x a).vectors ≡ x.vectors) × (altered_over x (requests_of x) ≡ 0)
  report_idle = over.over_idle x a
