-- The turns of a row: what is behind and what is to come make the whole.
use Rattle.std.specs.Prelude.{Result}
use Rattle.octets.specs.Standard.{ℕ, ◌+◌, ◌-◌, ◌*◌, ◌≤◌, ◌<◌, List, [], ◌∷◌, ◌++◌, Bool, true, false, ◌||◌, or-false, or_assoc, ◌≡◌, refl, sym, ap, ◌∙◌}
use Rattle.octets.specs.Standard.{append_assoc, zero-add, arith, length, take, drop, length-take, length-take-le, length-drop, drop-drop, drop_at}
use Rattle.octets.specs.Standard.{take_at, take-add, take-append-drop, eq-eqb, ne_eqb, eqb-false, leb, leb-true, leb-false}
use Rattle.octets.specs.Standard.{eqb, ltb, ltb-false}
use Rattle.octets.specs.Run.{over}
use Rattle.table.specs.Area.{size_in}
use Rattle.table.specs.Check.{check_table}
use Rattle.vectors.specs.VectorFile.{check_vectors}
use Rattle.reading.specs.declared.Terms.{Terms}
use Rattle.counting.specs.Words.{long_bytes}
use Rattle.counting.proofs.Longs.{long_length}
use Rattle.refusals.proofs.Passing.{neither}
use Rattle.calling.specs.Lent.{Lent, lent, asking}
use Rattle.calling.specs.Serve.{Served, serve, serve_table}
use Rattle.calling.proofs.Areas.{AsLarge, serve_exact, served_large}
use Rattle.calling.proofs.Kept.{table_checked, vectors_checked}
use Rattle.reporting.specs.Pieces.{pieces, total_of, stop_of}
use Rattle.reporting.specs.Report.{ended}
use Rattle.reporting.specs.Run.{first_length}
use Rattle.reporting.proofs.Cutting.{first_cut, first_none, past_none}
use Rattle.reporting.proofs.Turns.{here, piece_is, turn_within}
use Rattle.row_of_calls.specs.Word.{call_word}
use Rattle.row_of_calls.specs.Row.{Rowed, answer_length, alters, marks, no_room, ends, next, before, row_from, rowed}
use Rattle.row_of_calls.specs.Leaves.{ended_so, ServesAt, Rows}
use Rattle.row_of_calls.specs.declared.Done.{Done}
use Rattle.row_of_calls.specs.declared.Ended.{Ended}

-- what stands behind a front that is n bytes long
module _ (s : List ℕ) (n : ℕ) (within : n ≤ length s) (t : List ℕ) (m : ℕ) where
  front_more : take (n + m) (take n s ++ t) ≡ take n s ++ take m t
  front_more =
      let l : length (take n s) ≡ n = length-take-le n s within in
      take-add n m (take n s ++ t) ∙ rw (take_at (take n s) t n l, drop_at (take n s) t n l)

  rest_more : drop (n + m) (take n s ++ t) ≡ drop m t
  rest_more = sym (drop-drop m n (take n s ++ t)) ∙ ap (drop m) (drop_at (take n s) t n (length-take-le n s within))

-- a word of 8 bytes over the front of the words: itself, and what is behind it
module _ (n : ℕ) (b : List ℕ) where
  word_front : take 8 (over (long_bytes n) b) ≡ long_bytes n
  unfolding over
  word_front = take_at (long_bytes n) (drop (length (long_bytes n)) b) 8 (long_length n)

  word_rest : drop 8 (over (long_bytes n) b) ≡ drop 8 b
  unfolding over
  word_rest = drop_at (long_bytes n) (drop (length (long_bytes n)) b) 8 (long_length n) ∙ ap (λ (m : ℕ). drop m b) (long_length n)

-- WHAT THE CALLS SO FAR COME TO: at a byte of the file, with so many bytes of `answers` used; how many they are, and what they altered.
pub record Sums : Type 0 where
  pub at : ℕ
  pub used : ℕ
  pub served : ℕ
  pub altered : Bool
  pub marked : Bool

-- before what comes of the others
abbrev behind : Sums → List ℕ → List ℕ → Rowed → Rowed
behind s a w r =
    record {
      number = r.number;
      table = r.table;
      vectors = r.vectors;
      answers = take s.used a ++ r.answers;
      words = take (8 * s.served) w ++ r.words;
      served = s.served + r.served;
      altered = s.altered || r.altered;
      marked = s.marked || r.marked;
    }

-- what is to come, over what is lent now
abbrev rest : Lent → List ℕ → Sums → Rowed
rest y w s =
    row_from (ended y.request) (lent y.request y.table y.profile y.vectors (drop s.used y.buffer) y.terms) (drop (8 * s.served) w)
    (4294967295 - s.served) (pieces (drop s.at y.request))

-- from what was lent at first to what is lent now
pub record Going (x : Lent) (w₀ : List ℕ) (y : Lent) (w : List ℕ) (s : Sums) : Type 0 where
  pub stop : stop_of x.request ≡ s.at + stop_of (drop s.at x.request)
  pub whole : rowed x w₀ ≡ behind s y.buffer w (rest y w s)

abbrev pub sums : ℕ → ℕ → ℕ → Bool → Bool → Sums
sums at used served altered marked = record { at = at; used = used; served = served; altered = altered; marked = marked }

-- two rows of one end, table and vectors
pub alike : (r : Rowed) {a a' w w' : List ℕ} {n n' : ℕ} {b b' c c' : Bool} → a ≡ a' → w ≡ w' → n ≡ n' → b ≡ b' → c ≡ c'
    → ◌≡◌ {A = Rowed}
    (record { number = r.number; table = r.table; vectors = r.vectors; answers = a; words = w; served = n; altered = b; marked = c })
    (record { number = r.number; table = r.table; vectors = r.vectors; answers = a'; words = w'; served = n'; altered = b'; marked = c' })
alike r ea ew en eb ec = rw (ea, ew, en, eb, ec)

module _ (req t₀ file v₀ a₀ : List ℕ) (terms : Terms) (w₀ : List ℕ) where
  abbrev x : Lent
  x = lent req t₀ file v₀ a₀ terms

  pub going_start : Going x w₀ x w₀ (sums 0 0 0 false false)
  going_start = record { stop = omega arith; whole = alike (rowed x w₀) refl refl (sym (zero-add (rowed x w₀).served)) refl refl }

  module _ (t v a w : List ℕ) (at used served : ℕ) (altered marked : Bool)
      (g : Going x w₀ (lent req t file v a terms) w (sums at used served altered marked)) where
    abbrev s : Sums
    s = sums at used served altered marked

    -- what is lent to the next call
    abbrev y : Lent
    y = lent req t file v (drop used a) terms

    abbrev most : ℕ
    most = 4294967295 - served

    -- The row ends here.
    over_now : (number : ℕ) {r : Ended} → rest (lent req t file v a terms) w s ≡ ends number y (drop (8 * served) w) → r ≡ ended_so number served altered marked
        → Rows (rowed x w₀) r t v a w
    over_now number {r} e f =
        let o : rowed x w₀ ≡ behind s a w (ends number y (drop (8 * served) w)) = g.whole ∙ ap (behind s a w) e in
        record {
          number_is = rw (f, o);
          served_is = rw (f, o) (omega arith);
          altered_is = rw (f, o) (sym (or-false altered));
          marked_is = rw (f, o) (sym (or-false marked));
          table_is = rw o;
          vectors_is = rw o;
          answers_is = rw o (sym (take-append-drop used a));
          words_is = rw o (sym (take-append-drop (8 * served) w));
        }

    none_more : (number : ℕ) {r : Ended} → pieces (drop at req) ≡ [] → ended req ≡ number → r ≡ ended_so number served altered marked
        → Rows (rowed x w₀) r t v a w
    unfolding row_from
    none_more number e f h = over_now number (rw (e, f)) h

    stops_at_lem : pieces (drop at req) ≡ [] → stop_of req ≡ at
    unfolding total_of
    stops_at_lem e = let q : stop_of req ≡ at + 0 = rw e at g.stop in omega (arith, q)

    pub going_ends : {r : Ended} → length req ≤ at → at ≤ length req → r ≡ ended_so 0 served altered marked → Rows (rowed x w₀) r t v a w
    unfolding ended
    going_ends h k f =
        let e : pieces (drop at req) ≡ [] = past_none (drop at req) (rw length-drop (omega arith)) in
        none_more 0 e (rw (stops_at_lem e, eq-eqb at (length req) (omega arith))) f

    module _ {n : ℕ} (first : n ≡ first_length (take (length req - at) (drop at req))) where
      pub going_stops : {r : Ended} → n ≡ 0 → at < length req → r ≡ ended_so 7 served altered marked → Rows (rowed x w₀) r t v a w
      unfolding ended
      going_stops z h f =
          let e : pieces (drop at req) ≡ [] = first_none (drop at req) (here req at first) z in
          none_more 7 e (rw (stops_at_lem e, ne_eqb at (length req) (λ q. omega (arith, q, h)))) f

      module _ (z : n ≡ 0 → ⊥) where
        abbrev p : List ℕ
        p = take n (drop at req)

        cut : pieces (drop at req) ≡ p ∷ pieces (drop (at + n) req)
        cut = first_cut (drop at req) (here req at first) z ∙ ap (λ (l : List ℕ). p ∷ pieces l) (drop-drop n at req)

        module _ {full : Bool} (tells : full ≡ no_room (length a - used) (length w - 8 * served) most) where
          room : no_room (length (drop used a)) (length (drop (8 * served) w)) most ≡ full
          room = rw (length-drop used a, length-drop (8 * served) w) (sym tells)

          pub going_full : {r : Ended} → full ≡ true → r ≡ ended_so 15 served altered marked → Rows (rowed x w₀) r t v a w
          unfolding row_from
          going_full f h = over_now 15 (rw (cut, room, f)) h

          -- One request more.
          module _ (free : full ≡ false) (start : at ≤ length req) (fits : n ≤ length (take (length req - at) (drop at req))) (within : used ≤ length a)
              (behind-words : 8 * served ≤ length w) {d : Done} {t' v' a' w' : List ℕ}
              (q : ServesAt (lent (take (at + n - at) (drop at req)) t file v a terms) w used served d t' v' a' w') where
            -- what is lent to it, its word, and what is to come after it
            abbrev asked : Lent
            asked = asking y p

            abbrev own : ℕ
            own = call_word (serve asked).call

            abbrev more : Rowed
            more = row_from (ended req) (next y p) (drop 8 (drop (8 * served) w)) (most - 1) (pieces (drop (at + n) req))

            abbrev s' : Sums
            s' = sums (at + n) d.used (served + 1) (altered || d.altered) (marked || d.marked)

            one : ServesAt (lent p t file v a terms) w used served d t' v' a' w'
            one = rw (piece_is req at first) at q

            eight : 8 * served + 8 ≡ 8 * (served + 1)
            eight = omega arith

            turned : rest (lent req t file v a terms) w s ≡ before asked more
            unfolding row_from
            turned = rw (cut, room, free)

            answers_on : drop d.used a' ≡ drop (answer_length (serve asked).call) (serve asked).buffer
            answers_on =
                ap (λ (m : ℕ). drop m a') one.used_is ∙ ap (drop (used + answer_length (serve asked).call)) one.answers_is
                ∙ rest_more a used within (serve asked).buffer (answer_length (serve asked).call)

            words_on : drop (8 * (served + 1)) w' ≡ drop 8 (drop (8 * served) w)
            words_on =
                ap (λ (m : ℕ). drop m w') (sym eight) ∙ ap (drop (8 * served + 8)) one.words_is
                ∙ rest_more w (8 * served) behind-words (over (long_bytes own) (drop (8 * served) w)) 8
                ∙ word_rest own (drop (8 * served) w)

            rest_is : rest (lent req t' file v' a' terms) w' s' ≡ more
            unfolding next
            rest_is =
                let left : 4294967295 - (served + 1) ≡ most - 1 = omega arith in
                rw (answers_on, words_on, left, one.table_is, one.vectors_is)

            answers_are : take used a ++ take (answer_length (serve asked).call) (serve asked).buffer ≡ take d.used a'
            answers_are =
                sym (front_more a used within (serve asked).buffer (answer_length (serve asked).call))
                ∙ ap (take (used + answer_length (serve asked).call)) (sym one.answers_is)
                ∙ ap (λ (m : ℕ). take m a') (sym one.used_is)

            words_are : take (8 * served) w ++ long_bytes own ≡ take (8 * (served + 1)) w'
            words_are =
                ap (λ (l : List ℕ). take (8 * served) w ++ l) (sym (word_front own (drop (8 * served) w)))
                ∙ sym (front_more w (8 * served) behind-words (over (long_bytes own) (drop (8 * served) w)) 8)
                ∙ ap (take (8 * served + 8)) (sym one.words_is)
                ∙ ap (λ (m : ℕ). take m w') eight

            whole_is : behind s a w (before asked more) ≡ behind s' a' w' more
            whole_is =
                alike more
                (sym (append_assoc (take used a) (take (answer_length (serve asked).call) (serve asked).buffer) more.answers)
                ∙ ap (λ (l : List ℕ). l ++ more.answers) answers_are)
                (sym (append_assoc (take (8 * served) w) (long_bytes own) more.words) ∙ ap (λ (l : List ℕ). l ++ more.words) words_are)
                (omega arith)
                (sym (or_assoc altered (alters asked) more.altered) ∙ ap (λ (b : Bool). (altered || b) || more.altered) (sym one.altered_is))
                (sym (or_assoc marked (marks asked) more.marked) ∙ ap (λ (b : Bool). (marked || b) || more.marked) (sym one.marked_is))

            pub going_turns : Going x w₀ (lent req t' file v' a' terms) w' s'
            unfolding total_of
            going_turns =
                let l : length p ≡ n = simp (length-take, length-drop) (omega (arith, turn_within req at first start fits)) in
                let stop : stop_of req ≡ at + (n + stop_of (drop (at + n) req)) = g.stop ∙ rw (cut, l) in
                record {
                  stop = omega (arith, stop);
                  whole = g.whole ∙ ap (behind s a w) turned ∙ whole_is ∙ ap (behind s' a' w') (sym rest_is);
                }

-- WHAT HOLDS AFTER A CALL: the table is of the exact length still, and the checks say what they said.
module _ (req t file v a : List ℕ) (terms : Terms) (w : List ℕ) (used served : ℕ) {d : Done} {t' v' a' w' : List ℕ}
    (q : ServesAt (lent req t file v a terms) w used served d t' v' a' w') (exact : length t ≤ size_in t) where
  abbrev here_lent : Lent
  here_lent = lent req t file v (drop used a) terms

  table_now : t' ≡ (serve_table here_lent).table
  table_now = q.table_is ∙ ap (λ (s : Served). s.table) (serve_exact here_lent exact)

  pub turn_exact : length t' ≤ size_in t'
  turn_exact = let l : AsLarge t (serve_table here_lent).table = served_large here_lent in rw table_now (omega (arith, l.bytes, l.counts, exact))

  pub turn_table : {c : Result ℕ ℕ} → c ≡ check_table t (length file) → c ≡ check_table t' (length file)
  turn_table e = e ∙ sym (table_checked here_lent) ∙ rw table_now

  pub turn_vectors : {c : Result ℕ ℕ} → c ≡ check_vectors v → c ≡ check_vectors v'
  turn_vectors e =
      e ∙ sym (vectors_checked here_lent) ∙ ap check_vectors (sym (q.vectors_is ∙ ap (λ (s : Served). s.vectors) (serve_exact here_lent exact)))

-- The room that it has.
module _ (a w used served : ℕ) {full : Bool} (tells : full ≡ no_room (a - used) (w - 8 * served) (4294967295 - served)) (free : full ≡ false) where
  both : (ltb (w - 8 * served) 8 ≡ false) × (eqb (4294967295 - served) 0 ≡ false)
  both = neither (ltb (w - 8 * served) 8) _ (neither (ltb (a - used) 36864) _ (sym tells ∙ free)).1

  pub room_here : 8 * served ≤ w → 8 * served + 8 ≤ w
  room_here h = omega (arith, ltb-false (w - 8 * served) 8 both.0, h)

  pub room_more : served ≤ 4294967295 → served + 1 ≤ 4294967295
  room_more h = go (leb (served + 1) 4294967295) refl
    where
      go : (b : Bool) → leb (served + 1) 4294967295 ≡ b → served + 1 ≤ 4294967295
      go true e = leb-true (served + 1) 4294967295 e
      go false e = absurd (eqb-false (4294967295 - served) 0 both.1 (omega (arith, leb-false (served + 1) 4294967295 e)))
