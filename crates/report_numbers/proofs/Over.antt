-- The report over an area: what holds of the report over the table alone, said of the area in which the table is lent.
use Rattle.std.specs.Prelude.{Ok}
use Rattle.octets.specs.Standard.{ℕ, ◌+◌, ◌-◌, ◌*◌, ◌%◌, ◌^◌, ◌≤◌, ◌<◌, max, Bool, true, false, List, [], ◌∷◌, ◌++◌, ◌≡◌, refl, sym, ap, ◌∙◌, ◌⊎◌, inl, inr}
use Rattle.octets.specs.Standard.{◌≢◌, arith, leb, leb-true, leb-false, length, get_or, set, take, drop, drop-drop, length-append}
use Rattle.blocks.specs.Blocks.{block_of}
use Rattle.table.specs.Area.{table_in, check_area}
use Rattle.table.specs.Check.{check_table}
use Rattle.table.proofs.Sound.{table_says}
use Rattle.rewrite.specs.Keeps.{alterable}
use Rattle.counting.specs.Counted.{counts_of}
use Rattle.counting.specs.Layout.{stop_word, largest_word}
use Rattle.counting.specs.Event.{Event}
use Rattle.calling.specs.Lent.{Lent, lent, asking, table_only, put_back}
use Rattle.calling.specs.Serve.{serve_table, serve}
use Rattle.calling.proofs.Areas.{put_same}
use Rattle.demands.specs.Call.{turned_away}
use Rattle.demands.proofs.Areas.{front_block}
use Rattle.reporting.specs.Pieces.{stop_of}
use Rattle.reporting.specs.Row.{records_altered, event_of, next, row, left, next_over, row_over, left_over}
use Rattle.reporting.specs.Report.{Reported, requests_of, words_of, reported_table, report_back, reported}
use Rattle.reporting.proofs.Areas.{row_over_lem, left_over_lem, reported_in, reported_length, reported_rest}
use Rattle.report_numbers.specs.Area.{word_in}
use Rattle.report_numbers.specs.Turns.{events_of, words_over, InTurn, call_at, call_length, altered_over, all_idle, going_on}
use Rattle.report_numbers.proofs.Table.{table_events, table_call, table_altered, table_going}
use Rattle.report_numbers.proofs.Area.{largest_word_one}
use Rattle.report_numbers.proofs.Calls.{row_at}
use Rattle.report_numbers.proofs.Ends.{area_short}
use Rattle.report_numbers.proofs.Joined.{two_events, two_leave, two_words, two_place, two_largest}
use Rattle.report_numbers.proofs.Kept.{report_table, report_bytes, report_refused, report_idle}

-- THE CALLS over the area are those over the table in it.
module _ (x : Lent) where
  pub events_over : events_of x ≡ table_events (table_only x)
  events_over = row_over_lem x (requests_of x)

  pub words_over_lem : words_over x ≡ words_of (table_only x)
  unfolding words_of
  words_over_lem = ap (λ (es : List Event). set (counts_of es) stop_word (stop_of x.request)) events_over

  pub call_over : {ps : List (List ℕ)} (p : InTurn ps) → table_only (call_at x p) ≡ table_call (table_only x) p
  call_over p = ap (λ (y : Lent). asking y p.request) (left_over_lem x p.before)

  pub length_over : {ps : List (List ℕ)} (p : InTurn ps) → call_length (serve (call_at x p)).call ≡ call_length (serve_table (table_call (table_only x) p)).call
  length_over p = ap (λ (y : Lent). call_length (serve_table y).call) (call_over p)

pub altered_over_lem : (x : Lent) (ps : List (List ℕ)) → altered_over x ps ≡ table_altered (table_only x) ps
unfolding altered_over table_altered left left_over
altered_over_lem x [] = refl
altered_over_lem x (p ∷ ps) =
    let one : table_only (next_over x p) ≡ next (table_only x) p = left_over_lem x (p ∷ []) in
    ap (λ (n : ℕ). records_altered (table_only (asking x p)) + n) (altered_over_lem (next_over x p) ps ∙ ap (λ (y : Lent). table_altered y ps) one)

-- the largest answer
pub over_largest_one : (x : Lent) (area : List ℕ) → 1160 ≤ length area → (word_in (reported x area).area largest_word ≡ 0)
    ⊎ ((p : InTurn (requests_of x)) × (call_length (serve (call_at x p)).call ≡ word_in (reported x area).area largest_word))
over_largest_one x area room = go (largest_word_one (table_only x) area room)
  where
    go : (word_in (reported x area).area largest_word ≡ 0)
        ⊎ ((p : InTurn (requests_of x)) × (call_length (serve_table (table_call (table_only x) p)).call ≡ word_in (reported x area).area largest_word))
        → (word_in (reported x area).area largest_word ≡ 0)
        ⊎ ((p : InTurn (requests_of x)) × (call_length (serve (call_at x p)).call ≡ word_in (reported x area).area largest_word))
    go (inl e) = inl e
    go (inr (p, e)) = inr (p, length_over x p ∙ e)

-- one in its place
pub event_at : (x : Lent) (ps : List (List ℕ)) (p : InTurn ps)
    → row_over x ps ≡ row_over x p.before ++ (event_of (table_only (call_at x p)) ∷ row_over (left_over x (p.before ++ (p.request ∷ []))) p.after)
event_at x ps p =
    let to : List (List ℕ) = p.before ++ (p.request ∷ []) in
    row_over_lem x ps ∙ row_at (table_only x) ps p
    ∙ ap (λ (es : List Event). es ++ (event_of (table_call (table_only x) p) ∷ row (left (table_only x) to) p.after)) (sym (row_over_lem x p.before))
    ∙ ap (λ (y : Lent). row_over x p.before ++ (event_of y ∷ row (left (table_only x) to) p.after)) (sym (call_over x p))
    ∙ ap (λ (es : List Event). row_over x p.before ++ (event_of (table_only (call_at x p)) ∷ es))
    (sym (row_over_lem (left_over x to) p.after ∙ ap (λ (y : Lent). row y p.after) (left_over_lem x to)))

-- WHAT IS LEFT. Where the table stays, the whole area does; what may be put behind another table of this area may be put behind any.
module _ (x : Lent) (area : List ℕ) where
  pub over_stays : (reported_table (table_only x) area).table ≡ table_in x.table → (reported x area).table ≡ x.table
  over_stays e = ap (put_back x.table) e ∙ put_same x.table

  pub over_short : length area < 1160
      → reported x area ≡ record { number = 15; table = x.table; vectors = x.vectors; buffer = x.buffer; area = area }
  over_short h =
      ap (report_back x.table) (area_short (table_only x) area h)
      ∙ ap (λ (t : List ℕ). record { number = 15; table = t; vectors = x.vectors; buffer = x.buffer; area = area }) (put_same x.table)

  in_size : length (table_in (reported x area).table) ≡ length (table_in x.table)
  in_size =
      let t : List ℕ = (reported_table (table_only x) area).table in
      let b : List ℕ = drop (length (table_in x.table)) x.table in
      ap length (reported_in x area)
      ∙ omega (arith, reported_length x area, length-append t b, length-append (table_in x.table) b, ap length (put_same x.table))

  pub over_again : (t : List ℕ) → put_back (reported x area).table t ≡ put_back x.table t
  over_again t = ap (λ (s : List ℕ). t ++ s) (ap (λ (n : ℕ). drop n (reported x area).table) in_size ∙ reported_rest x area)

  pub over_checked : check_area (reported x area).table (length x.profile) ≡ check_area x.table (length x.profile)
  unfolding check_area
  over_checked = ap (λ (t : List ℕ). check_table t (length x.profile)) (reported_in x area) ∙ report_table (table_only x) area

  pub over_refused : ((p : List ℕ) → turned_away (asking (table_only x) p) ≡ true)
      → ((reported x area).table ≡ x.table) × ((reported x area).vectors ≡ x.vectors) × ((reported x area).buffer ≡ x.buffer)
  over_refused h = let k = report_refused (table_only x) area h in (over_stays k.0, k.1, k.2)

  pub over_idle : all_idle (events_of x) ≡ true
      → ((reported x area).table ≡ x.table) × ((reported x area).vectors ≡ x.vectors) × (altered_over x (requests_of x) ≡ 0)
  over_idle q =
      let k = report_idle (table_only x) area (ap all_idle (sym (events_over x)) ∙ q) in
      (over_stays k.0, k.1, altered_over_lem x (requests_of x) ∙ k.2)

  -- every block: one within the count, and one past it
  module _ (count : ℕ) (sound : check_area x.table (length x.profile) ≡ Ok count) where
    of_table : check_table (table_in x.table) (length x.profile) ≡ Ok count
    unfolding check_area
    of_table = sound

    after : check_table (table_in (reported x area).table) (length x.profile) ≡ Ok count
    unfolding check_area
    after = over_checked ∙ sound

    past : (k : ℕ) → count < k → block_of (reported x area).table k ≡ block_of x.table k
    unfolding block_of
    past k h =
        let n : ℕ = length (table_in x.table) in
        let e : n ≡ 512 * (count + 1) = (table_says (table_in x.table) (length x.profile) count of_table).size in
        let q : n + (512 * k - n) ≡ 512 * k = omega (arith, e, h) in
        let from : (t : List ℕ) → drop (512 * k) t ≡ drop (512 * k - n) (drop n t) =
        λ t. ap (λ (m : ℕ). drop m t) (sym q) ∙ sym (drop-drop (512 * k - n) n t) in
        ap (take 512) (from (reported x area).table ∙ ap (drop (512 * k - n)) (reported_rest x area) ∙ sym (from x.table))

    pub over_bytes : (k i : ℕ) → i < 512 → alterable i ≡ false → get_or (block_of (reported x area).table k) i 0 ≡ get_or (block_of x.table k) i 0
    over_bytes k i l e = go (leb k count) refl
      where
        go : (b : Bool) → leb k count ≡ b → get_or (block_of (reported x area).table k) i 0 ≡ get_or (block_of x.table k) i 0
        go true f =
            let h : k ≤ count = leb-true k count f in
            let was : block_of (table_in x.table) k ≡ block_of x.table k = front_block x.table (length x.profile) count of_table k h in
            let is : block_of (reported x area).table k ≡ block_of (reported_table (table_only x) area).table k =
            sym (front_block (reported x area).table (length x.profile) count after k h) ∙ ap (λ (t : List ℕ). block_of t k) (reported_in x area) in
            ap (λ (b : List ℕ). get_or b i 0) is ∙ report_bytes (table_only x) area count of_table k i h l e ∙ ap (λ (b : List ℕ). get_or b i 0) was
        go false f = ap (λ (b : List ℕ). get_or b i 0) (past k (leb-false k count f))

-- TWO FILES: what is lent to the second report.
module _ (x : Lent) (more area : List ℕ) where
  pub going_over : table_only (going_on x area more) ≡ table_going (table_only x) area more
  going_over =
      ap (λ (t : List ℕ). lent more t x.profile (reported x area).vectors (reported x area).buffer x.terms) (reported_in x area)

  module _ (room : 1160 ≤ length area) (whole : (reported x area).number ≡ 0) where
    pub both_events : events_of (asking x (x.request ++ more)) ≡ events_of x ++ events_of (going_on x area more)
    both_events =
        let again : events_of (going_on x area more) ≡ table_events (table_going (table_only x) area more) =
        events_over (going_on x area more) ∙ ap table_events going_over in
        events_over (asking x (x.request ++ more)) ∙ two_events (table_only x) more area room whole
        ∙ ap (λ (es : List Event). table_events (table_only x) ++ es) (sym again)
        ∙ ap (λ (es : List Event). es ++ events_of (going_on x area more)) (sym (events_over x))

    pub both_leave : (b : List ℕ) → 1160 ≤ length b
        → ((reported (asking x (x.request ++ more)) area).number ≡ (reported (going_on x area more) b).number)
        × ((reported (asking x (x.request ++ more)) area).table ≡ (reported (going_on x area more) b).table)
        × ((reported (asking x (x.request ++ more)) area).vectors ≡ (reported (going_on x area more) b).vectors)
        × ((reported (asking x (x.request ++ more)) area).buffer ≡ (reported (going_on x area more) b).buffer)
    both_leave b space =
        let l = two_leave (table_only x) more area room whole b space in
        let same : reported_table (table_going (table_only x) area more) b ≡ reported_table (table_only (going_on x area more)) b =
        ap (λ (y : Lent). reported_table y b) (sym going_over) in (
          l.0 ∙ ap (λ (r : Reported). r.number) same,
          ap (put_back x.table) (l.1 ∙ ap (λ (r : Reported). r.table) same)
              ∙ sym (over_again x area (reported_table (table_only (going_on x area more)) b).table),
          l.2 ∙ ap (λ (r : Reported). r.vectors) same,
          l.3 ∙ ap (λ (r : Reported). r.buffer) same,
        )

    module _ (b : List ℕ) (space : 1160 ≤ length b) where
      pub both_words : (i : ℕ) → i < 145 → i ≢ stop_word → i ≢ largest_word
          → word_in (reported (asking x (x.request ++ more)) area).area i
          ≡ (word_in (reported x area).area i + word_in (reported (going_on x area more) b).area i) % 2 ^ 64
      both_words i h m n =
          two_words (table_only x) more area room whole b space i h m n
          ∙ ap (λ (y : Lent). (word_in (reported x area).area i + word_in (reported_table y b).area i) % 2 ^ 64) (sym going_over)

      pub both_place : length (x.request ++ more) < 2 ^ 64
          → word_in (reported (asking x (x.request ++ more)) area).area stop_word
          ≡ word_in (reported x area).area stop_word + word_in (reported (going_on x area more) b).area stop_word
      both_place l =
          two_place (table_only x) more area room whole b space l
          ∙ ap (λ (y : Lent). word_in (reported x area).area stop_word + word_in (reported_table y b).area stop_word) (sym going_over)

      pub both_largest : word_in (reported (asking x (x.request ++ more)) area).area largest_word
          ≡ max (word_in (reported x area).area largest_word) (word_in (reported (going_on x area more) b).area largest_word)
      both_largest =
          two_largest (table_only x) more area room whole b space
          ∙ ap (λ (y : Lent). max (word_in (reported x area).area largest_word) (word_in (reported_table y b).area largest_word)) (sym going_over)
