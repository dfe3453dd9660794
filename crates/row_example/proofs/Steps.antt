-- How a row is computed, a request at a time, over any area of answers that has room.
use Rattle.std.specs.Prelude.{Result, Ok}
use Rattle.octets.specs.Standard.{ℕ, suc, ◌-◌, ◌≤◌, List, [], ◌∷◌, ◌++◌, Bool, true, false, not, ◌||◌, ◌≡◌, sym, ap, ◌∙◌, arith, length, take, drop, take_at}
use Rattle.octets.specs.Standard.{drop_at, ltb, le-ltb, ne_eqb}
use Rattle.octets.specs.Name.{same}
use Rattle.octets.specs.Run.{over}
use Rattle.rewrite.specs.Change.{altered_up_to}
use Rattle.counting.specs.Words.{long_bytes}
use Rattle.refusals.specs.Early.{check_value}
use Rattle.calling.specs.Call.{Refused}
use Rattle.calling.specs.Lent.{Lent, lent, asking}
use Rattle.calling.specs.Serve.{Served, check_of, serve}
use Rattle.calling.proofs.Areas.{only_sound, serve_sound}
use Rattle.reporting.specs.Row.{records_altered}
use Rattle.row_of_calls.specs.Row.{Rowed, answer_length, alters, marks, no_room, ends, next, before, row_from}
use Rattle.row_of_calls.specs.Word.{word, call_word}
use Rattle.report_example.proofs.Calls.{leaves}

-- room for one more
pub roomed : (a w m : ℕ) → 36864 ≤ a → 8 ≤ w → 1 ≤ m → no_room a w m ≡ false
roomed a w m h i j = rw (le-ltb a 36864 h, le-ltb w 8 i) (ne_eqb m 0 (λ e. omega (arith, e, j)))

-- an answer over an area: its bytes, and behind them what was there
module _ (bytes area : List ℕ) (n : ℕ) (l : length bytes ≡ n) where
  over_front : take n (over bytes area) ≡ bytes
  unfolding over
  over_front = take_at bytes (drop (length bytes) area) n l

  pub over_rest : drop n (over bytes area) ≡ drop n area
  unfolding over
  over_rest = drop_at bytes (drop (length bytes) area) n l ∙ rw l

-- a call in a row, and those behind it
abbrev pub after : List ℕ → ℕ → Bool → Bool → Rowed → Rowed
after answer w altered marked r =
    record {
      number = r.number;
      table = r.table;
      vectors = r.vectors;
      answers = answer ++ r.answers;
      words = long_bytes w ++ r.words;
      served = suc r.served;
      altered = altered || r.altered;
      marked = marked || r.marked;
    }

module _ (end : ℕ) (x : Lent) (words : List ℕ) (most : ℕ) (p : List ℕ) (ps : List (List ℕ))
    (room : no_room (length x.buffer) (length words) most ≡ false) where
  abbrev goes : Served → Rowed
  goes s =
      row_from end
      (lent x.request s.table x.profile s.vectors (drop (answer_length s.call) s.buffer) x.terms) (drop 8 words) (most - 1) ps

  first : row_from end x words most (p ∷ ps) ≡ before (asking x p) (goes (serve (asking x p)))
  unfolding row_from next
  first = rw room

  called : (s : Served) → serve (asking x p) ≡ s
      → row_from end x words most (p ∷ ps)
      ≡ after (take (answer_length s.call) s.buffer) (call_word s.call) (alters (asking x p)) (marks (asking x p)) (goes s)
  called s e =
      first
      ∙ ap (λ (z : Served).
      after (take (answer_length z.call) z.buffer) (call_word z.call) (alters (asking x p)) (marks (asking x p)) (goes z)) e

  -- one that is answered, and one that is refused
  pub answered_step : (bytes : List ℕ) (n : ℕ) (t v : List ℕ) (a m : Bool) → length bytes ≡ n → serve (asking x p) ≡ leaves n t v (over bytes x.buffer)
      → alters (asking x p) ≡ a → marks (asking x p) ≡ m
      → row_from end x words most (p ∷ ps)
      ≡ after bytes (word 0 0 n) a m (row_from end (lent x.request t x.profile v (drop n x.buffer) x.terms) (drop 8 words) (most - 1) ps)
  answered_step bytes n t v a m l e f g =
      called (leaves n t v (over bytes x.buffer)) e ∙ rw (over_front bytes x.buffer n l, over_rest bytes x.buffer n l, f, g)

  pub refused_step : (n : ℕ) (a m : Bool) → serve (asking x p) ≡ record { call = Refused n 0; table = x.table; vectors = x.vectors; buffer = x.buffer }
      → alters (asking x p) ≡ a → marks (asking x p) ≡ m
      → row_from end x words most (p ∷ ps) ≡ after [] (word n 0 0) a m (row_from end x (drop 8 words) (most - 1) ps)
  refused_step n a m e f g = called _ e ∙ rw (f, g)

-- what an answered one leaves to the next
pub next_from : (x : Lent) (p bytes : List ℕ) (n : ℕ) (t v : List ℕ) → length bytes ≡ n → serve (asking x p) ≡ leaves n t v (over bytes x.buffer)
    → next x p ≡ lent x.request t x.profile v (drop n x.buffer) x.terms
unfolding next
next_from x p bytes n t v l e =
    ap (λ (s : Served). lent x.request s.table x.profile s.vectors (drop (answer_length s.call) s.buffer) x.terms) e
    ∙ ap (λ (b : List ℕ). lent x.request t x.profile v b x.terms) (over_rest bytes x.buffer n l)

-- none has room
pub full_step : (end : ℕ) (x : Lent) (words : List ℕ) (most : ℕ) (p : List ℕ) (ps : List (List ℕ)) → ltb (length x.buffer) 36864 ≡ true
    → row_from end x words most (p ∷ ps) ≡ ends 15 x words
unfolding row_from
full_step end x words most p ps e = rw e

-- whether it altered a record, or marked a vector
pub altered_from : (y : Lent) (s : Served) → serve y ≡ s → check_of y ≡ Ok 1 → alters y ≡ ltb 0 (altered_up_to y.table s.table 1)
altered_from y s e f =
    ap (λ (z : Lent). ltb 0 (records_altered z)) (only_sound y 1 f)
    ∙ ap (λ (z : Served). ltb 0 (altered_up_to y.table z.table (check_value (check_of y)))) (sym (serve_sound y 1 f) ∙ e)
    ∙ ap (λ (c : Result ℕ ℕ). ltb 0 (altered_up_to y.table s.table (check_value c))) f

pub marked_from : (y : Lent) (s : Served) → serve y ≡ s → marks y ≡ not (same y.vectors s.vectors)
marked_from y s e = ap (λ (z : Served). not (same y.vectors z.vectors)) e
