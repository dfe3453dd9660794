-- Reports over one request, and over two files, one behind the other.
use Rattle.octets.specs.Standard.{ℕ, ◌+◌, ◌%◌, ◌^◌, ◌≤◌, ◌<◌, max, Bool, cond, List, [], ◌∷◌, ◌++◌, ◌≡◌, refl, sym, ap, ◌∙◌, ◌≢◌, arith, add-mod}
use Rattle.octets.specs.Standard.{length, length-append, eqb, eq-eqb, eqb-true}
use Rattle.counting.specs.Counted.{largest_in, number_at}
use Rattle.counting.specs.Layout.{stop_word, largest_word}
use Rattle.counting.specs.Event.{Event}
use Rattle.counting.proofs.Numbers.{number_append, largest_append, word_other}
use Rattle.calling.specs.Lent.{Lent, asking, table_only, put_back}
use Rattle.calling.specs.Serve.{serve_table}
use Rattle.ndushavire.specs.Promise.{DecidePromise, ReportPromise}
use Rattle.reporting.specs.Pieces.{pieces, total_of, stop_of}
use Rattle.reporting.specs.Row.{event_of, next, row, left}
use Rattle.reporting.specs.Report.{requests_of, ended, ran, reported_table}
use Rattle.report_numbers.specs.Area.{word_in}
use Rattle.report_numbers.specs.File.{OneRequest}
use Rattle.report_numbers.proofs.Table.{table_events, table_going}
use Rattle.report_numbers.proofs.Area.{report_word, report_place, report_largest}
use Rattle.report_numbers.proofs.Calls.{row_append, left_append, row_other, left_other, left_profile, left_terms}
use Rattle.report_numbers.proofs.Cells.{same_test}
use Rattle.report_numbers.proofs.Cut.{one_piece, one_stop, two_pieces, total_append}
use Rattle.report_numbers.proofs.Ends.{area_long, stop_zero, zero_stop}

-- One request.
module _ (x : Lent) (one : OneRequest x.request) where
  pub one_event : table_events x ≡ event_of x ∷ []
  unfolding row
  one_event = ap (row x) (one_piece x.request one)

  one_left : left x (requests_of x) ≡ next x x.request
  unfolding left
  one_left = ap (left x) (one_piece x.request one)

  module _ (area : List ℕ) (room : 1160 ≤ length area) where
    pub one_zero : (reported_table x area).number ≡ 0
    one_zero = stop_zero x area room (one_stop x.request one)

    pub one_leaves : ((reported_table x area).table ≡ (serve_table x).table) × ((reported_table x area).vectors ≡ (serve_table x).vectors)
        × ((reported_table x area).buffer ≡ (serve_table x).buffer)
    unfolding ran next
    one_leaves = rw (area_long x area room, one_left) (refl, refl, refl)

-- .. over areas
pub one_decides : (x : Lent) → OneRequest x.request → (area : List ℕ) → 1160 ≤ length area → {r s : ℕ} {t u v w o q b : List ℕ}
    → DecidePromise x r t v o → ReportPromise x area s u w q b → (u ≡ t) × (w ≡ v) × (q ≡ o)
one_decides x one area room d p =
    let l = one_leaves (table_only x) one area room in (
      p.table_is ∙ ap (put_back x.table) l.0 ∙ sym d.table_is,
      p.vectors_is ∙ l.1 ∙ sym d.vectors_is,
      p.buffer_is ∙ l.2 ∙ sym d.buffer_is,
    )

-- Two files, the first used up: the second report goes on where the first ended.
module _ (x : Lent) (more area : List ℕ) (room : 1160 ≤ length area) (whole : (reported_table x area).number ≡ 0) where
  abbrev both : Lent
  both = asking x (x.request ++ more)

  abbrev second : Lent
  second = table_going x area more

  used : stop_of x.request ≡ length x.request
  used = zero_stop x area room whole

  pub two_requests : requests_of both ≡ requests_of x ++ requests_of second
  two_requests = two_pieces x.request more used

  goes_on : asking (left x (requests_of x)) more ≡ second
  unfolding ran
  goes_on = rw (area_long x area room, left_profile x (requests_of x), left_terms x (requests_of x))

  pub two_events : table_events both ≡ table_events x ++ table_events second
  two_events =
      ap (row both) two_requests
      ∙ row_other x (x.request ++ more) (requests_of x ++ requests_of second)
      ∙ row_append x (requests_of x) (requests_of second)
      ∙ ap (λ (es : List Event). table_events x ++ es)
      (sym (row_other (left x (requests_of x)) more (requests_of second)) ∙ ap (λ (y : Lent). row y (pieces more)) goes_on)

  two_left : asking (left both (requests_of both)) more ≡ left second (requests_of second)
  two_left =
      ap (λ (y : Lent). asking y more)
      (ap (left both) two_requests
      ∙ left_other x (x.request ++ more) (requests_of x ++ requests_of second)
      ∙ ap (λ (y : Lent). asking y (x.request ++ more)) (left_append x (requests_of x) (requests_of second)))
      ∙ sym (left_other (left x (requests_of x)) more (pieces more))
      ∙ ap (λ (y : Lent). left y (pieces more)) goes_on

  pub two_stop : stop_of (x.request ++ more) ≡ stop_of x.request + stop_of more
  two_stop = ap total_of two_requests ∙ total_append (requests_of x) (pieces more)

  two_ended : ended (x.request ++ more) ≡ ended more
  unfolding ended
  two_ended = ap (λ (b : Bool). cond b 0 7) same
    where
      n : ℕ
      n = length x.request

      same : eqb (stop_of (x.request ++ more)) (length (x.request ++ more)) ≡ eqb (stop_of more) (length more)
      same =
          rw (two_stop, used, length-append x.request more)
          (same_test (n + stop_of more) (n + length more) (eqb (stop_of more) (length more)) (λ e. eq-eqb (stop_of more) (length more) (omega (arith, e)))
          (λ e. omega (arith, eqb-true (stop_of more) (length more) e)))

  module _ (again : List ℕ) (space : 1160 ≤ length again) where
    pub two_leave : ((reported_table both area).number ≡ (reported_table second again).number)
        × ((reported_table both area).table ≡ (reported_table second again).table)
        × ((reported_table both area).vectors ≡ (reported_table second again).vectors)
        × ((reported_table both area).buffer ≡ (reported_table second again).buffer)
    unfolding ran
    two_leave = rw (area_long both area room, area_long second again space) (
      two_ended,
      ap (λ (y : Lent). y.table) two_left,
      ap (λ (y : Lent). y.vectors) two_left,
      ap (λ (y : Lent). y.buffer) two_left,
    )

    pub two_words : (i : ℕ) → i < 145 → i ≢ stop_word → i ≢ largest_word
        → word_in (reported_table both area).area i ≡ (word_in (reported_table x area).area i + word_in (reported_table second again).area i) % 2 ^ 64
    two_words i h m n =
        report_word both area room i h m
        ∙ word_other (table_events both) i n
        ∙ ap (λ (es : List Event). number_at es i % 2 ^ 64) two_events
        ∙ ap (λ (k : ℕ). k % 2 ^ 64) (number_append (table_events x) (table_events second) i n)
        ∙ add-mod (number_at (table_events x) i) (number_at (table_events second) i) (2 ^ 64)
        ∙ rw (report_word x area room i h m, report_word second again space i h m, word_other (table_events x) i n, word_other (table_events second) i n)

    pub two_largest : word_in (reported_table both area).area largest_word
        ≡ max (word_in (reported_table x area).area largest_word) (word_in (reported_table second again).area largest_word)
    two_largest =
        report_largest both area room
        ∙ ap largest_in two_events
        ∙ largest_append (table_events x) (table_events second)
        ∙ rw (report_largest x area room, report_largest second again space)

    pub two_place : length (x.request ++ more) < 2 ^ 64
        → word_in (reported_table both area).area stop_word ≡ word_in (reported_table x area).area stop_word + word_in (reported_table second again).area stop_word
    two_place l =
        let n : length (x.request ++ more) ≡ length x.request + length more = length-append x.request more in
        report_place both area room l
        ∙ two_stop
        ∙ rw (report_place x area room (omega (arith, n, l)), report_place second again space (omega (arith, n, l)))
