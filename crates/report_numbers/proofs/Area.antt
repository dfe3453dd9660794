-- The words that a report writes.
use Rattle.octets.specs.Standard.{ℕ, ◌+◌, ◌*◌, ◌%◌, ◌^◌, ◌≤◌, ◌<◌, List, Bool, true, false, ◌≡◌, refl, sym, ap, ◌∙◌, ◌⊎◌, ◌≢◌, arith, mod-lt}
use Rattle.octets.specs.Standard.{mod-eq_of_lt, length, get_or, take, drop, length-set, get_or-set_same, get_or-set_other, eqb, ltb, ltb-true, ltb-false}
use Rattle.octets.specs.Standard.{eqb-true, eqb-false}
use Rattle.octets.specs.Run.{over}
use Rattle.counting.specs.Counted.{how_many, largest_in, number_at, word_at, counts_of}
use Rattle.counting.specs.Layout.{read_word, stop_word, altered_word, largest_word, answered_word, refusal_word, cell_word}
use Rattle.counting.specs.Totals.{sum_from, row_totals}
use Rattle.counting.specs.Words.{long_bytes, words_bytes}
use Rattle.counting.proofs.Counts.{counts_length, counts_at}
use Rattle.counting.proofs.Numbers.{word_largest, word_other, exact}
use Rattle.counting.proofs.Totals.{sum_alike, rows_answered, totals_read}
use Rattle.calling.specs.Lent.{Lent}
use Rattle.calling.specs.Serve.{serve_table}
use Rattle.reporting.specs.Pieces.{stop_of}
use Rattle.reporting.specs.Report.{Reported, requests_of, words_of, ran, reported_table}
use Rattle.reporting.proofs.Whole.{row_fits}
use Rattle.report_numbers.specs.Area.{word_in, rows_in, refusals_in}
use Rattle.report_numbers.specs.Turns.{InTurn, refused_by, answered_in, call_length}
use Rattle.report_numbers.proofs.Table.{table_events, table_call, table_altered}
use Rattle.report_numbers.proofs.Cut.{stop_within, few_pieces}
use Rattle.report_numbers.proofs.Calls.{row_length, row_altered, over_most, largest_most, largest_least, largest_one}
use Rattle.report_numbers.proofs.Cells.{refused_count, answered_count}
use Rattle.report_numbers.proofs.Words.{area_length, area_past, area_word, area_bytes}
use Rattle.report_numbers.proofs.Ends.{area_short, area_long}

module _ (x : Lent) where
  words_length : length (words_of x) ≡ 145
  unfolding words_of
  words_length = length-set (counts_of (table_events x)) stop_word (stop_of x.request) ∙ counts_length (table_events x)

  words_place : get_or (words_of x) stop_word 0 ≡ stop_of x.request
  unfolding words_of
  words_place = get_or-set_same (counts_of (table_events x)) stop_word (stop_of x.request) 0 (omega (arith, counts_length (table_events x)))

  words_at_lem : (i : ℕ) → i < 145 → i ≢ stop_word → get_or (words_of x) i 0 ≡ word_at (table_events x) i
  unfolding words_of
  words_at_lem i h n = get_or-set_other (counts_of (table_events x)) stop_word i (stop_of x.request) 0 n ∙ counts_at (table_events x) i h

  word_small : (i : ℕ) → word_at (table_events x) i < 2 ^ 64
  word_small i = go (eqb i 3) refl
    where
      go : (b : Bool) → eqb i 3 ≡ b → word_at (table_events x) i < 2 ^ 64
      go true e = rw (eqb-true i 3 e, word_largest (table_events x)) (omega (arith, largest_most x (requests_of x)))
      go false e = rw (word_other (table_events x) i (eqb-false i 3 e)) (mod-lt (number_at (table_events x) i) {m = 2 ^ 64} (omega arith))

  pub few_requests : 20 * length (table_events x) ≤ length x.request
  few_requests = omega (arith, row_length x (requests_of x), few_pieces x.request)

  pub report_length : (area : List ℕ) → length (reported_table x area).area ≡ length area
  unfolding ran
  report_length area = go (ltb (length area) 1160) refl
    where
      go : (b : Bool) → ltb (length area) 1160 ≡ b → length (reported_table x area).area ≡ length area
      go true e = rw (area_short x area (ltb-true (length area) 1160 e))
      go false e =
          let h = ltb-false (length area) 1160 e in
          rw (area_long x area h) (area_length (words_of x) area words_length h)

module _ (x : Lent) (area : List ℕ) (room : 1160 ≤ length area) where
  abbrev written : List ℕ
  written = (reported_table x area).area

  written_is : written ≡ over (words_bytes (words_of x)) area
  unfolding ran
  written_is = ap (λ (r : Reported). r.area) (area_long x area room)

  pub report_past : drop 1160 written ≡ drop 1160 area
  report_past = rw written_is (area_past (words_of x) area (words_length x) room)

  pub report_bytes : (i : ℕ) → i < 145 → take 8 (drop (8 * i) written) ≡ long_bytes (get_or (words_of x) i 0)
  report_bytes i h = rw written_is (area_bytes (words_of x) area (words_length x) room i h)

  pub report_word : (i : ℕ) → i < 145 → i ≢ stop_word → word_in written i ≡ word_at (table_events x) i
  report_word i h n =
      let e = words_at_lem x i h n in
      rw written_is (area_word (words_of x) area (words_length x) room i h (rw e (word_small x i)) ∙ e)

  pub report_place : length x.request < 2 ^ 64 → word_in written stop_word ≡ stop_of x.request
  report_place l =
      let e = words_place x in
      rw written_is (area_word (words_of x) area (words_length x) room 1 (omega arith) (rw e (omega (arith, stop_within x.request))) ∙ e)

  -- no remainder
  pub report_exact : length x.request < 2 ^ 64 → (i : ℕ) → i < 145 → i ≢ stop_word → i ≢ altered_word → i ≢ largest_word
      → word_in written i ≡ number_at (table_events x) i
  report_exact l i h n m k = report_word i h n ∙ exact (table_events x) (omega (arith, few_requests x)) i m k

  pub report_altered : word_in written altered_word ≡ table_altered x (requests_of x) % 2 ^ 64
  unfolding number_at
  report_altered =
      report_word 2 (omega arith) (omega arith)
      ∙ word_other (table_events x) 2 (omega arith)
      ∙ ap (λ (n : ℕ). n % 2 ^ 64) (row_altered x (requests_of x))

  pub report_altered_exact : length x.request < 2 ^ 56 → word_in written altered_word ≡ table_altered x (requests_of x)
  report_altered_exact l =
      report_altered ∙ mod-eq_of_lt (omega (arith, over_most x (requests_of x), few_pieces x.request))

  pub report_largest : word_in written largest_word ≡ largest_in (table_events x)
  report_largest = report_word 3 (omega arith) (omega arith) ∙ word_largest (table_events x)

  -- "the row totals add up to the requests read"
  module _ (l : length x.request < 2 ^ 64) where
    part : (i n : ℕ) → 5 ≤ i → i + n ≤ 145 → sum_from (word_in written) i n ≡ sum_from (number_at (table_events x)) i n
    part i n a b =
        sum_alike (word_in written) (number_at (table_events x)) i n
        (λ k c d. report_exact l k (omega arith) (omega arith) (omega arith) (omega arith))

    rows_are : rows_in written ≡ row_totals (table_events x)
    rows_are =
        omega (
          arith,
          part 20 25 (omega arith) (omega arith),
          part 45 25 (omega arith) (omega arith),
          part 70 25 (omega arith) (omega arith),
          part 95 25 (omega arith) (omega arith),
          part 120 25 (omega arith) (omega arith),
        )

    pub report_read : word_in written read_word ≡ length (requests_of x)
    unfolding number_at
    report_read = report_exact l 0 (omega arith) (omega arith) (omega arith) (omega arith) ∙ row_length x (requests_of x)

    pub report_rows : rows_in written ≡ word_in written answered_word
    report_rows =
        rows_are
        ∙ rows_answered (table_events x) (row_fits x (requests_of x))
        ∙ sym (report_exact l 4 (omega arith) (omega arith) (omega arith) (omega arith))

    pub report_totals : rows_in written + refusals_in written ≡ word_in written read_word
    report_totals =
        omega (
          arith,
          rows_are,
          part 5 15 (omega arith) (omega arith),
          totals_read (table_events x) (row_fits x (requests_of x)),
          report_read,
          row_length x (requests_of x),
        )

    -- from word 5 on
    pub refused_word : (n : ℕ) → 1 ≤ n → n ≤ 15 → word_in written (refusal_word n) ≡ how_many (refused_by n) (table_events x)
    refused_word n a h =
        report_exact l (refusal_word n) (omega arith) (omega arith) (omega arith) (omega arith)
        ∙ refused_count (table_events x) (row_fits x (requests_of x)) n a h

    pub answered_word_lem : (r c : ℕ) → r ≤ 4 → c < 25 → word_in written (cell_word r c) ≡ how_many (answered_in r c) (table_events x)
    answered_word_lem r c h a =
        report_exact l (cell_word r c) (omega arith) (omega arith) (omega arith) (omega arith)
        ∙ answered_count (table_events x) (row_fits x (requests_of x)) r c a

  -- the largest answer
  pub largest_word_lem : (p : InTurn (requests_of x)) → call_length (serve_table (table_call x p)).call ≤ word_in written largest_word
  largest_word_lem p = rw report_largest (largest_least x (requests_of x) p)

  pub largest_word_one : (word_in written largest_word ≡ 0)
      ⊎ ((p : InTurn (requests_of x)) × (call_length (serve_table (table_call x p)).call ≡ word_in written largest_word))
  largest_word_one = rw report_largest (largest_one x (requests_of x))
