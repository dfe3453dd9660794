-- The small month's report: by 7, with the place of the 3 bytes, the counts, the table and the buffer afterwards.
use Rattle.octets.specs.Standard.{ℕ, ◌≤◌, ◌≡◌, refl, ap, ◌∙◌, List, [], ◌∷◌, ◌++◌, inl, length, replicate, lit≤}
use Rattle.octets.specs.Run.{over}
use Rattle.counting.specs.Results.{base_results, experimental_results, index_in, command_row, column_of}
use Rattle.counting.specs.Counted.{cell_of, how_many, altered_in, largest_in, number_at, word_at, values_below, counts_of}
use Rattle.counting.specs.Words.{long_bytes, words_bytes}
use Rattle.counting.specs.Event.{Event}
use Rattle.reading.specs.declared.Outcome.TheVariants.{Base, Experimental}
use Rattle.requests.specs.Request.{under_cx}
use Rattle.calling.specs.Lent.{Lent, lent, table_only}
use Rattle.calling.proofs.Areas.{only_sound}
use Rattle.reporting.specs.Pieces.{stop_of}
use Rattle.reporting.specs.Row.{next, row, left}
use Rattle.reporting.specs.Report.{Reported, requests_of, words_of, ran, reported}
use Rattle.reporting.proofs.Areas.{reported_sound}
use Rattle.report_numbers.specs.File.{end_to_end, BrokenOff}
use Rattle.report_numbers.specs.Turns.{events_of}
use Rattle.report_numbers.proofs.Ends.{area_long}
use Rattle.report_numbers.proofs.Numbers.{report_7_broken, report_over}
use Rattle.report_example.proofs.Calls.{lir, removal, strayed, messages, scrap, file, here, gone, located, removed, sought, month, each, sound_here}
use Rattle.report_example.proofs.Calls.{counts, located_comes, removed_comes, sought_comes, strayed_comes, all, located_counts, removed_counts}
use Rattle.report_example.proofs.Calls.{sought_counts, strayed_counts}
use Rattle.std.specs.Prelude.{Err}

-- an area of one byte more than the report
unfoldable pub area : List ℕ
area = replicate 1161 9

pub enough : 1160 ≤ length area
unfolding area
enough = lit≤ tt

pub breaks : BrokenOff scrap
breaks = record { some = lit≤ tt; by = inl (lit≤ tt) }

-- nothing is behind the table
pub month_only : table_only month ≡ month
unfolding month
month_only = only_sound month 1 sound_here

month_long : reported month area ≡ ran month area
unfolding month
month_long = reported_sound month area 1 sound_here ∙ area_long month area enough

-- the file is read up to the 3 bytes
month_read : (requests_of month ≡ messages) × (stop_of file ≡ length (end_to_end messages)) × ((reported month area).number ≡ 7)
unfolding month file
month_read = report_7_broken month area enough messages each scrap refl breaks

pub month_requests : requests_of month ≡ messages
month_requests = month_read.0

pub month_number : (reported month area).number ≡ 7
month_number = month_read.2

pub month_stop : stop_of file ≡ 452
unfolding all end_to_end
month_stop = month_read.1

-- the calls in turn
after_located : next month lir ≡ lent file here [] [] located (under_cx 3588 0)
unfolding month next
after_located = rw located_comes

after_removed : next (lent file here [] [] located (under_cx 3588 0)) removal ≡ lent file gone [] [] removed (under_cx 3588 0)
unfolding next
after_removed = rw removed_comes

after_sought : next (lent file gone [] [] removed (under_cx 3588 0)) lir ≡ lent file gone [] [] sought (under_cx 3588 0)
unfolding next
after_sought = rw sought_comes

after_strayed : next (lent file gone [] [] sought (under_cx 3588 0)) strayed ≡ lent file gone [] [] sought (under_cx 3588 0)
unfolding next
after_strayed = rw strayed_comes

abbrev pub events : List Event
events = counts 302 (Base 2001) 132 0 ∷ counts 301 (Base 2001) 116 1 ∷ counts 302 (Experimental 5003) 136 0 ∷ Err 4 ∷ []

month_row : row month (requests_of month) ≡ events
unfolding row month
month_row =
    ap (row month) month_requests ∙ rw (after_located, after_removed, after_sought, located_counts, removed_counts, sought_counts, strayed_counts)

pub month_events : events_of month ≡ events
month_events = report_over month (requests_of month) ∙ ap (λ (y : Lent). row y (requests_of month)) month_only ∙ month_row

month_left : left month (requests_of month) ≡ lent file gone [] [] sought (under_cx 3588 0)
unfolding left
month_left = ap (left month) month_requests ∙ rw (after_located, after_removed, after_sought, after_strayed)

-- the words: 4 requests, stopped at byte 452, 1 record altered, the largest answer of 136 bytes, 3 answered; a refusal by 4, a SAR's B2001, a LIR's B2001 and
-- a LIR's X5003
abbrev words : List ℕ
words =
    4 ∷ 452 ∷ 1 ∷ 136 ∷ 3 ∷ replicate 3 0
    ++ (1 ∷ replicate 36 0 ++ (1 ∷ replicate 24 0 ++ (1 ∷ replicate 18 0 ++ (1 ∷ replicate 55 0))))

unfoldable pub counting : ℕ
unfolding cell_of how_many altered_in largest_in number_at word_at values_below counts_of command_row column_of index_in base_results experimental_results
counting = 0

month_words : words_of month ≡ words
unfolding words_of counting month
month_words = rw (month_row, month_stop)

pub month_table : (reported month area).table ≡ gone
unfolding ran
month_table = ap (λ (r : Reported). r.table) month_long ∙ ap (λ (y : Lent). y.table) month_left

-- one statement
record Month : Type 0 where
  number : (reported month area).number ≡ 7
  table : (reported month area).table ≡ gone
  vectors : (reported month area).vectors ≡ []
  buffer : (reported month area).buffer ≡ sought
  area : (reported month area).area ≡ words_bytes words ++ (9 ∷ [])

reported_month : Month
unfolding ran over words_bytes long_bytes area
reported_month =
    record {
      number = month_number;
      table = month_table;
      vectors = ap (λ (r : Reported). r.vectors) month_long ∙ ap (λ (y : Lent). y.vectors) month_left;
      buffer = ap (λ (r : Reported). r.buffer) month_long ∙ ap (λ (y : Lent). y.buffer) month_left;
      area = ap (λ (r : Reported). r.area) month_long ∙ rw month_words;
    }
