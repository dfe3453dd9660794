-- Rows of one request, and of two files, one behind the other.
use Rattle.octets.specs.Standard.{ℕ, ◌+◌, ◌-◌, ◌*◌, ◌≤◌, List, ◌++◌, or-false, ◌≡◌, refl, sym, ap, ◌∙◌, arith}
use Rattle.octets.specs.Standard.{length, take, drop, take_at, drop_at, take-append-drop, eq-eqb, le-ltb}
use Rattle.counting.specs.Words.{long_bytes, words_bytes}
use Rattle.counting.proofs.Longs.{bytes_length}
use Rattle.calling.specs.Lent.{Lent, asking, table_only}
use Rattle.calling.specs.Serve.{serve}
use Rattle.reporting.specs.Pieces.{pieces, stop_of}
use Rattle.reporting.specs.Report.{requests_of, ended}
use Rattle.report_numbers.specs.File.{OneRequest}
use Rattle.report_numbers.proofs.Cut.{one_piece, one_stop, two_pieces}
use Rattle.report_numbers.proofs.Ends.{zero_stop}
use Rattle.report_numbers.proofs.Numbers.{report_both_leaves}
use Rattle.row_of_calls.specs.Row.{Rowed, answer_length, alters, marks, ends, next, row_from, rowed}
use Rattle.row_of_calls.specs.Word.{call_word}
use Rattle.row_laws.specs.Turns.{served_of, lent_after, words_by, answers_by, some_alters, some_marks, written, behind, going_on, words_left, joined}
use Rattle.row_laws.proofs.Folds.{row_append, row_other, row_within}
use Rattle.row_laws.proofs.Calls.{words_count, after_alike}
use Rattle.row_laws.proofs.Ends.{area, area_room, ended_report, row_is, ended_whole, all_served}

-- ONE REQUEST.
module _ (x : Lent) (one : OneRequest x.request) (words : List ℕ) (answer : 36864 ≤ length x.buffer) (word_room : 8 ≤ length words) where
  abbrev called : Rowed
  called =
      record {
        number = 0;
        table = (serve x).table;
        vectors = (serve x).vectors;
        answers = (serve x).buffer;
        words = long_bytes (call_word (serve x).call) ++ drop 8 words;
        served = 1;
        altered = alters x;
        marked = marks x;
      }

  one_ended : ended x.request ≡ 0
  unfolding ended
  one_ended = rw (one_stop x.request one, eq-eqb (length x.request) (length x.request) refl)

  pub one_row : rowed x words ≡ called
  unfolding row_from next
  one_row =
      rw (
        one_piece x.request one,
        one_ended,
        le-ltb (length x.buffer) 36864 answer,
        le-ltb (length words) 8 word_room,
        take-append-drop (answer_length (serve x).call) (serve x).buffer,
        or-false (alters x),
        or-false (marks x),
      )

-- TWO FILES, the first used up.
module _ (x : Lent) (words more : List ℕ) (whole : (rowed x words).number ≡ 0) where
  abbrev first : Rowed
  first = rowed x words

  abbrev second : Rowed
  second = rowed (going_on x words more) (words_left x words)

  abbrev both : Rowed
  both = rowed (asking x (x.request ++ more)) words

  abbrev ps : List (List ℕ)
  ps = requests_of x

  all : first.served ≡ length ps
  all = (ended_whole x words 0 (omega arith) whole).0

  all_are : served_of x words ≡ ps
  all_are = all_served x words all

  ends_zero : ended x.request ≡ 0
  ends_zero = (ended_whole x words 0 (omega arith) whole).1

  used : stop_of x.request ≡ length x.request
  used = zero_stop (table_only x) (area x) (area_room x) (ended_report x ∙ ends_zero)

  -- the file of both ends as the second
  both_ended : ended (x.request ++ more) ≡ ended more
  both_ended =
      sym (ended_report (asking x (x.request ++ more)))
      ∙ (report_both_leaves x more (area x) (area_room x) (ended_report x ∙ ends_zero) (area x) (area_room x)).0
      ∙ ended_report _

  -- what the first wrote, and what it left
  first_is : first ≡ behind x ps (ends 0 (lent_after x ps) (drop (8 * length ps) words))
  first_is = row_is x words ∙ rw (all_are, whole, all)

  wrote : length (words_bytes (words_by x ps)) ≡ 8 * length ps
  wrote = bytes_length (words_by x ps) ∙ ap (λ (n : ℕ). 8 * n) (words_count x ps)

  goes_on : going_on x words more ≡ asking (lent_after x ps) more
  goes_on =
      rw (
        all_are,
        first_is,
        drop_at (answers_by x ps) (lent_after x ps).buffer (length (answers_by x ps)) refl,
        (after_alike x ps).profile,
        (after_alike x ps).terms,
      )

  words_left_lem : words_left x words ≡ drop (8 * length ps) words
  words_left_lem = rw (first_is) (drop_at (words_bytes (words_by x ps)) (drop (8 * length ps) words) (8 * (length ps + 0)) (wrote ∙ omega arith))

  second_is : second ≡ row_from (ended more) (lent_after x ps) (drop (8 * length ps) words) 4294967295 (pieces more)
  second_is =
      ap (λ (y : Lent). row_from (ended more) y (words_left x words) 4294967295 (pieces more)) goes_on
      ∙ row_other (ended more) (lent_after x ps) more (words_left x words) 4294967295 (pieces more)
      ∙ rw words_left_lem

  both_is : both ≡ behind x ps (row_from (ended more) (lent_after x ps) (drop (8 * length ps) words) (4294967295 - length ps) (pieces more))
  both_is =
      row_other (ended (x.request ++ more)) x (x.request ++ more) words 4294967295 (pieces (x.request ++ more))
      ∙ rw (both_ended, two_pieces x.request more used)
      (row_append (ended x.request) (ended more) x words 4294967295 ps (pieces more) all)

  wrote_answers : take (written x words) first.answers ≡ answers_by x ps
  wrote_answers = rw (all_are, first_is) (take_at (answers_by x ps) (lent_after x ps).buffer (length (answers_by x ps)) refl)

  wrote_words : take (8 * first.served) first.words ≡ words_bytes (words_by x ps)
  wrote_words = rw (first_is) (take_at (words_bytes (words_by x ps)) (drop (8 * length ps) words) (8 * (length ps + 0)) (wrote ∙ omega arith))

  flags : (first.altered ≡ some_alters x ps) × (first.marked ≡ some_marks x ps)
  flags = rw first_is (or-false (some_alters x ps), or-false (some_marks x ps))

  pub both_joined : first.served + second.served ≤ 4294967295 → both ≡ joined x words second
  both_joined h =
      let n : 4294967295 - length ps ≤ 4294967295 = omega arith in
      let fewer : (row_from (ended more) (lent_after x ps) (drop (8 * length ps) words) 4294967295 (pieces more)).served ≤ 4294967295 - length ps =
      rw (← second_is) (omega (arith, h, all)) in
      both_is
      ∙ ap (behind x ps)
      (row_within (ended more) (lent_after x ps) (drop (8 * length ps) words) 4294967295 (pieces more) (4294967295 - length ps) n fewer ∙ sym second_is)
      ∙ rw (← wrote_answers, ← wrote_words, ← all, ← flags.0, ← flags.1)
