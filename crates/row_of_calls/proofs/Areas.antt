-- A row over an area: its calls are those over the table at the front of it, which is put back.
use Rattle.octets.specs.Standard.{ℕ, ◌-◌, ◌≤◌, List, [], ◌∷◌, ◌++◌, Bool, true, false, cond, not, ◌||◌, ◌≡◌, refl, sym, ap, ◌∙◌, arith, length, take, drop}
use Rattle.octets.specs.Standard.{length-take, length-take-le, ltb}
use Rattle.octets.specs.Name.{same}
use Rattle.table.specs.Area.{size_in, table_in}
use Rattle.table.proofs.Areas.{in_first, in_all}
use Rattle.reading.specs.declared.Terms.{Terms}
use Rattle.counting.specs.Words.{long_bytes}
use Rattle.calling.specs.Lent.{Lent, lent, asking, holding, table_only, put_back}
use Rattle.calling.specs.Serve.{Served, serve, serve_table}
use Rattle.calling.proofs.Areas.{put_same, served_in, served_again, serve_exact}
use Rattle.reporting.specs.Report.{ended}
use Rattle.reporting.specs.Row.{records_altered}
use Rattle.row_of_calls.specs.Word.{call_word}
use Rattle.row_of_calls.specs.Row.{Rowed, answer_length, no_room, ends, next, before, row_from, rowed}
use Rattle.row_of_calls.specs.Leaves.{Rows}
use Rattle.row_of_calls.specs.declared.Ended.{Ended}
use Rattle.row_of_calls.proofs.Turns.{alike}

-- what comes of a row, with another table; its table put back into an area
abbrev with_table : Rowed → List ℕ → Rowed
with_table r table =
    record {
      number = r.number;
      table = table;
      vectors = r.vectors;
      answers = r.answers;
      words = r.words;
      served = r.served;
      altered = r.altered;
      marked = r.marked;
    }

abbrev pub row_back : List ℕ → Rowed → Rowed
row_back area r = with_table r (put_back area r.table)

-- nothing is behind the table that is taken out of an area
in_exact : (area : List ℕ) → length (table_in area) ≤ size_in (table_in area)
unfolding table_in size_in
in_exact area =
    let z : size_in (table_in area) ≡ size_in area = rw (in_first area) in
    let l : length (take (size_in area) area) ≤ size_in area = rw length-take (omega arith) in
    rw z l

module _ (x : Lent) where
  -- the call over the table alone
  alone : serve (table_only x) ≡ serve_table (table_only x)
  alone = serve_exact (table_only x) (in_exact x.table)

  only_once : table_only (table_only x) ≡ table_only x
  only_once = ap (holding x) (in_all (table_in x.table) (in_exact x.table))

  before_over : (area : List ℕ) (r : Rowed) → before x (row_back area r) ≡ row_back area (before (table_only x) r)
  before_over area r =
      alike (row_back area r) (ap (λ (s : Served). take (answer_length s.call) s.buffer ++ r.answers) (sym alone))
      (ap (λ (s : Served). long_bytes (call_word s.call) ++ r.words) (sym alone))
      refl
      (ap (λ (y : Lent). ltb 0 (records_altered y) || r.altered) (sym only_once))
      (ap (λ (s : Served). not (same x.vectors s.vectors) || r.marked) (sym alone))

next_over_lem : (x : Lent) (p : List ℕ) → table_only (next x p) ≡ next (table_only x) p
unfolding next
next_over_lem x p =
    ap
    (λ (t : List ℕ). lent x.request t x.profile (serve (asking x p)).vectors
    (drop (answer_length (serve (asking x p)).call) (serve (asking x p)).buffer) x.terms)
    (served_in (asking x p))
    ∙ ap (λ (s : Served). lent x.request s.table x.profile s.vectors (drop (answer_length s.call) s.buffer) x.terms)
    (sym (alone (asking x p)))

next_put : (x : Lent) (p t : List ℕ) → put_back (next x p).table t ≡ put_back x.table t
unfolding next
next_put x p t = served_again (asking x p) t

ends_over : (number : ℕ) (x : Lent) (words : List ℕ) → ends number x words ≡ row_back x.table (ends number (table_only x) words)
ends_over number x words = ap (with_table (ends number x words)) (sym (put_same x.table))

row_over_lem : (end : ℕ) (x : Lent) (words : List ℕ) (most : ℕ) (ps : List (List ℕ))
    → row_from end x words most ps ≡ row_back x.table (row_from end (table_only x) words most ps)
unfolding row_from
row_over_lem end x words most [] = ends_over end x words
row_over_lem end x words most (p ∷ ps) = go (no_room (length x.buffer) (length words) most) (row_over_lem end (next x p) (drop 8 words) (most - 1) ps)
  where
    after : Lent → Rowed
    after y = row_from end y (drop 8 words) (most - 1) ps

    later : after (next x p) ≡ row_back (next x p).table (after (table_only (next x p))) → after (next x p) ≡ row_back x.table (after (next (table_only x) p))
    later e =
        e ∙ ap (λ (y : Lent). row_back (next x p).table (after y)) (next_over_lem x p)
        ∙ ap (with_table (after (next (table_only x) p))) (next_put x p (after (next (table_only x) p)).table)

    go : (b : Bool) → after (next x p) ≡ row_back (next x p).table (after (table_only (next x p)))
        → cond b (ends 15 x words) (before (asking x p) (after (next x p)))
        ≡ row_back x.table (cond b (ends 15 (table_only x) words) (before (asking (table_only x) p) (after (next (table_only x) p))))
    go true e = ends_over 15 x words
    go false e = ap (before (asking x p)) (later e) ∙ before_over (asking x p) x.table (after (next (table_only x) p))

pub rowed_over : (x : Lent) (words : List ℕ) → rowed x words ≡ row_back x.table (rowed (table_only x) words)
rowed_over x words = row_over_lem (ended x.request) x words 4294967295 _

-- What the function that cuts the area leaves.
pub front_exact : (n : ℕ) (area : List ℕ) → take n area ≡ table_in area → length (take n area) ≤ size_in (take n area)
front_exact n area e = rw e (in_exact area)

module _ (req working file v a : List ℕ) (terms : Terms) (words : List ℕ) where
  abbrev x : Lent
  x = lent req working file v a terms

  pub area_rows : (n : ℕ) {r : Ended} {t' v' a' w' : List ℕ} → take n working ≡ table_in working → n ≤ length working
      → Rows (rowed (lent req (take n working) file v a terms) words) r t' v' a' w'
      → Rows (rowed x words) r (t' ++ drop n working) v' a' w'
  area_rows n {r} {t'} {v'} {a'} {w'} e h l =
      let s : Rows (rowed (table_only x) words) r t' v' a' w' = rw e at l in
      let k : n ≡ length (table_in working) = sym (length-take-le n working h) ∙ ap length e in
      let o : rowed x words ≡ row_back working (rowed (table_only x) words) = rowed_over x words in
      record {
        number_is = s.number_is ∙ sym (ap (λ (q : Rowed). q.number) o);
        served_is = s.served_is ∙ sym (ap (λ (q : Rowed). q.served) o);
        altered_is = s.altered_is ∙ sym (ap (λ (q : Rowed). q.altered) o);
        marked_is = s.marked_is ∙ sym (ap (λ (q : Rowed). q.marked) o);
        table_is =
            ap (λ (t : List ℕ). t ++ drop n working) s.table_is
            ∙ ap (λ (m : ℕ). (rowed (table_only x) words).table ++ drop m working) k
            ∙ sym (ap (λ (q : Rowed). q.table) o);
        vectors_is = s.vectors_is ∙ sym (ap (λ (q : Rowed). q.vectors) o);
        answers_is = s.answers_is ∙ sym (ap (λ (q : Rowed). q.answers) o);
        words_is = s.words_is ∙ sym (ap (λ (q : Rowed). q.words) o);
      }
